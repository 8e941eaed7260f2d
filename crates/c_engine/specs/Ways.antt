-- The way on which what is left of a sampler goes back to its engine.
use Rattle.std.specs.Prelude.{◌≡◌}
use mathlib.Core.List.{IsPrefix}
use Rattle.channel_ring.specs.declared.ends.SendEnd.{Ghosts as SendGhosts}
use Rattle.channel_ring.specs.declared.ends.RingEnd.{Ghosts as EndGhosts}
use Rattle.sampler.specs.Past.{Past}
use Rattle.sampler.specs.Standing.{EndStandsAfter, StandsAfter}
use Rattle.sampler.specs.State.{SamplerEndState, SamplerState, joined}
use Rattle.sampler.specs.Stays.{KeepsSetUp}

-- a past goes on from an earlier one of the same opening
pub record GoesOnFrom (past later : Past) : Type 0 where
  pub opening : later.opening ≡ past.opening
  pub history : IsPrefix past.history later.history
  pub decisions : IsPrefix past.decisions later.decisions

module _ {S E : Type 0} (send : SendGhosts S E) (ring : EndGhosts E) where
  -- sampler s is t by now: still that of its channel and its ring, and whatever s stood after, t
  -- stands after a past that goes on from it
  pub record IsLaterOf (s t : SamplerState S) : Type 0 where
    pub set_up : KeepsSetUp send s t
    pub stands :
        (past : Past) → StandsAfter send ring s past
        → (later : Past) × GoesOnFrom past later × StandsAfter send ring t later

  -- this is left of a sampler that was s once: of its channel and its ring, and whatever s stood
  -- after, it stands after a past that goes on from it
  pub record IsEndOf (s : SamplerState S) (e : SamplerEndState E) : Type 0 where
    pub channel : e.channel ≡ s.channel
    pub capacity : e.capacity ≡ send.capacity s.end
    pub same_ring : ring.ring e.end ≡ send.ring s.end
    pub stands :
        (past : Past) → StandsAfter send ring s past
        → (later : Past) × GoesOnFrom past later × EndStandsAfter (joined ring e) later
