-- What the samplers of an engine stand after, and what is left of them.
use Rattle.std.specs.Prelude.{◌≡◌, ℕ, List, slice_get, Some}
use Rattle.channel_ring.specs.declared.ends.SendEnd.{Ghosts as SendGhosts}
use Rattle.channel_ring.specs.declared.ends.RingEnd.{Ghosts as EndGhosts}
use Rattle.sampler.specs.State.{JoinedEnd, SamplerState}
use Rattle.sampler.specs.Standing.{EndStandsAfter, StandsAfter}
use Rattle.sampler.specs.Past.{Past}

-- each of the samplers of channels 0, 1, .. stands after the past of its channel
abbrev pub StandInOrder :
    {S E : Type 0} → SendGhosts S E → EndGhosts E → List (SamplerState S) → (ℕ → Past) → Type 0
StandInOrder send ring samplers past =
    (c : ℕ) (s : SamplerState _) → slice_get samplers c ≡ Some s
    → StandsAfter send ring s (past c)

-- and each of the joined ends of channels 0, 1, ..
abbrev pub EndsStandInOrder : List JoinedEnd → (ℕ → Past) → Type 0
EndsStandInOrder ends past =
    (c : ℕ) (e : JoinedEnd) → slice_get ends c ≡ Some e
    → EndStandsAfter e (past c)
