-- What a slave hears of the bytes of its master.
use Rattle.std.specs.Prelude.{◌≡◌, ◌⊎◌, ℕ, ◌+◌, ◌*◌, ◌≤◌, true, List, [], ◌∷◌, ◌++◌, length}
use Rattle.std.specs.Prelude.{take as first}
use Rattle.session.specs.Past.{Given}
use Rattle.frame_writer.specs.Reading.{Leads, ReaderState}
use Rattle.frame_writer.specs.Pieces.{EndsSplit, SplitsInto}
use Rattle.slave.specs.Hearing.{GoesBy, IsHearing, MayOpen, most_before}
use Rattle.slave.specs.Log.{Act, losing}
use Rattle.slave.specs.Standing.{SlaveState}
use Rattle.slave.specs.declared.limits.TheConstants.{PER_PACKET}

-- packets, the oldest first, were heard with this clock and memory by these acts, the newest first,
-- and by no others: each was answered, or refused, and before that a measurement may have been
-- opened
abbrev pub AreHeard : Given → List (List ℕ) → List Act → Type 0
AreHeard given [] acts = acts ≡ []
AreHeard given (packet ∷ packets) acts =
    (later : List Act) × (act : Act) × (opening : List Act) × (acts ≡ later ++ act ∷ opening)
    × IsHearing packet given act × MayOpen most_before opening × AreHeard given packets later

-- the packets were heard with this clock and memory, in order, each of which counts as 128;
-- nothing else that a log tells of; and what the last peek showed is shown still
pub record HearsAll (a b : SlaveState) (given : Given) (packets : List (List ℕ)) : Type 0 where
  pub acts : List Act
  pub are : AreHeard given packets acts
  pub goes : GoesBy a b acts
  pub counted : b.acts ≡ a.acts + PER_PACKET * length packets
  pub next : b.next ≡ a.next
  pub shown : b.outbox.shown ≡ a.outbox.shown
  pub profile : b.session.profile ≡ a.session.profile

-- these bytes were taken, and the packets of the frames that they ended were heard
pub record Receives (r s : ReaderState) (a b : SlaveState) (given : Given) (bytes : List ℕ)
    : Type 0 where
  pub packets : List (List ℕ)
  pub leads : Leads r s bytes packets
  pub hears : HearsAll a b given packets

-- some first bytes were taken, up to the begin of a bad frame, and the packets before it heard
pub record BreaksOff (r s : ReaderState) (a b : SlaveState) (given : Given) (bytes : List ℕ)
    : Type 0 where
  pub taken : ℕ
  pub within : taken ≤ length bytes
  pub receives : Receives r s a b given (first taken bytes)
  pub closed : s.closed ≡ true

-- the same; and then the slave disconnected, if a master was connected, and what waits waits on
pub record LosesStream (r s : ReaderState) (a b : SlaveState) (given : Given) (bytes : List ℕ)
    : Type 0 where
  pub between : SlaveState
  pub breaks_off : BreaksOff r s a between given bytes
  pub disconnects : GoesBy between b (losing between.session.connected)
  pub outbox : b.outbox ≡ between.outbox
  pub counted : b.acts ≡ between.acts
  pub next : b.next ≡ between.next
  pub profile : b.session.profile ≡ between.session.profile

-- so many bytes of a datagram were taken: frames, whose packets were heard, and then nothing; or
-- if all were taken, less than a frame, or a bad one and what is behind it
pub record HearsDatagram (a b : SlaveState) (given : Given) (bytes : List ℕ) (taken : ℕ)
    : Type 0 where
  pub packets : List (List ℕ)
  pub left : List ℕ
  pub split : SplitsInto a.session.profile.max_cto (first taken bytes) packets left
  pub ends : EndsSplit a.session.profile.max_cto left
  pub rest : (left ≡ []) ⊎ (taken ≡ length bytes)
  pub hears : HearsAll a b given packets
