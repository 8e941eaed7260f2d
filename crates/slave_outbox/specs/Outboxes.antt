-- What contracts see of an outbox, and what it stands after.
use Rattle.std.specs.Prelude.{◌≡◌, ℕ, ◌%◌, Bool, true, false, if◌then◌else◌, nat_lt, count_by}
use Rattle.std.specs.Prelude.{List, [], ◌∷◌, ◌++◌, length, map}
use Rattle.frame_writer.specs.Frame.{text, unnumbered}
use Rattle.frame_ring.specs.Sending.{FrontFits}
use Rattle.slave_outbox.specs.Origins.{is_reply}
use Rattle.slave_outbox.specs.declared.limits.TheConstants.{MAX_REPLIES}
use Rattle.slave_outbox.specs.declared.origin.Origin.{Origin}

-- a packet that was laid out: where it is from, and whether it is the last of those that were laid
-- out together
pub record Laid : Type 0 where
  pub origin : Origin
  pub packet : List ℕ
  pub last : Bool

-- the bytes that were sent, CTR of the next frame that is sent, the packets that wait, the oldest
-- first, how many of them the last peek showed, and up to how many bytes samples are laid out
pub record OutboxState : Type 0 where
  pub sent : List ℕ
  pub counter : ℕ
  pub waits : List Laid
  pub shown : ℕ
  pub page : ℕ

-- all of these, in order
abbrev pub packets_in : List Laid → List (List ℕ)
packets_in laid = map (λ (x : Laid). x.packet) laid

abbrev pub is_none : List (List ℕ) → Bool
is_none [] = true
is_none (q ∷ qs) = false

-- packets that are laid out together, in order
abbrev pub together : Origin → List (List ℕ) → List Laid
together origin [] = []
together origin (q ∷ qs) =
    record { origin = origin; packet = q; last = is_none qs } ∷ together origin qs

-- where those are from whose last packet is one of these
abbrev pub origins_in : List Laid → List Origin
origins_in [] = []
origins_in (x ∷ xs) = if x.last then x.origin ∷ origins_in xs else origins_in xs

-- how many of them are replies
abbrev pub replies_in : List Laid → ℕ
replies_in laid = count_by is_reply (origins_in laid)

-- how many bytes their frames have
abbrev pub bytes_in : List Laid → ℕ
bytes_in laid = length (unnumbered (packets_in laid))

-- an outbox stands after these: so much was laid out and sent, in order, and so much waits; and
-- samples are laid out up to so many bytes
pub record StandsAfter (o : OutboxState) (page : ℕ) (sent waits : List Laid) : Type 0 where
  pub gone : o.sent ≡ text 0 (packets_in sent)
  pub counter : o.counter ≡ length sent % 65536
  pub waiting : o.waits ≡ waits
  pub page_is : o.page ≡ page

-- a reply finds room
abbrev pub has_room : OutboxState → Bool
has_room o = nat_lt (replies_in o.waits) MAX_REPLIES

-- something waits
abbrev pub has_waiting : OutboxState → Bool
has_waiting o = nat_lt 0 (length o.waits)

-- these wait too, behind all others
abbrev pub LaysOut : OutboxState → OutboxState → List Laid → Type 0
LaysOut a b xs = b ≡ record a { waits = a.waits ++ xs }

-- a peek shows so many packets, whose frames have so many bytes: as many as find room
abbrev pub Shows : OutboxState → ℕ → ℕ → ℕ → Type 0
Shows o room count len = FrontFits (packets_in o.waits) room (record { count = count; len = len })
