-- The samplers of an engine: those that it has still, and those that came back.
use Rattle.std.specs.Prelude.{◌≡◌, ℕ, List, [], ◌∷◌, length, map}
use mathlib.Core.List.{IsPrefix}
use Rattle.xcp_base.specs.declared.item.Item.{Item}
use Rattle.channel_ring.specs.Ends.{RingName}
use Rattle.channel_ring.specs.declared.ends.SendEnd.{Ghosts as SendGhosts}
use Rattle.channel_ring.specs.declared.ends.RingEnd.{Ghosts as EndGhosts}
use Rattle.frame_writer.specs.Writing.{WriterState}
use Rattle.sampler.specs.History.{Opening}
use Rattle.sampler.specs.Past.{first_past}
use Rattle.sampler.specs.State.{SamplerEndState, SamplerState, joined, sent_by}
use Rattle.transmitter.specs.Looks.{KnowsAll, Looked}
use Rattle.transmitter.specs.Written.{HasTaken, TransmitterState}
use Rattle.daq_engine.specs.Configuration.{IsConfiguration}
use Rattle.daq_engine.specs.Standings.{StandInOrder}
use Rattle.c_engine.specs.Ways.{IsEndOf}

-- all samplers as they were at the opening; those that are out, as they were handed out; those that
-- weren't handed out; and what is left of those that came back. All are in rising order of their
-- event channels
pub record LendingState (S E : Type 0) : Type 0 where
  pub began : List (SamplerState S)
  pub out : List (SamplerState S)
  pub samplers : List (SamplerState S)
  pub ends : List (SamplerEndState E)

-- these ends are left of the first of the samplers, one by one; behind those stand the rest
abbrev pub HaveComeOf
    : {S E : Type 0} → SendGhosts S E → EndGhosts E → List (SamplerState S)
    → List (SamplerEndState E) → List (SamplerState S) → Type 0
HaveComeOf send ring began [] rest = began ≡ rest
HaveComeOf send ring [] (e ∷ ends) rest = ⊥
HaveComeOf send ring (s ∷ began) (e ∷ ends) rest =
    IsEndOf send ring s e × HaveComeOf send ring began ends rest

-- all of them came back
abbrev pub AreBack : {S E : Type 0} → SendGhosts S E → EndGhosts E → LendingState S E → Type 0
AreBack send ring l = HaveComeOf send ring l.began l.ends []

-- the rings and the event channels of samplers
abbrev pub rings_in : {S E : Type 0} → SendGhosts S E → List (SamplerState S) → List RingName
rings_in send samplers = map (λ (s : SamplerState _). send.ring s.end) samplers

abbrev pub channels_in : {S : Type 0} → List (SamplerState S) → List ℕ
channels_in samplers = map (λ (s : SamplerState _). s.channel) samplers

-- what an engine was opened with: the samplers of one configuration, which stood after nothing, and
-- a frame writer; and the items that its transmitter took since
pub record WasOpened {S E : Type 0} (send : SendGhosts S E) (ring : EndGhosts E)
    (began : List (SamplerState S)) (t : TransmitterState)
    : Type 0 where
  pub openings : ℕ → Opening
  pub configuration : IsConfiguration (length began) openings
  pub stand : StandInOrder send ring began (λ c. first_past (openings c))
  pub start : WriterState
  pub items : List (ℕ × Item)
  pub taken : HasTaken start t items

-- all that the samplers sent, which all came back, was looked at. What came back before is what it
-- was
pub record LooksAtEnds {S E : Type 0} (send : SendGhosts S E) (ring : EndGhosts E)
    (a b : TransmitterState) (old new : LendingState S E)
    : Type 0 where
  pub back : AreBack send ring new
  pub kept : IsPrefix (map (joined ring) old.ends) (map (joined ring) new.ends)
  pub looked : Looked a b
  pub all : KnowsAll (sent_by (map (joined ring) new.ends)) b
  pub began : new.began ≡ old.began
  pub samplers : new.samplers ≡ old.samplers
