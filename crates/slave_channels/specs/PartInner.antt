-- What no public clause cites: a part of a measurement is changed or finished.
use Rattle.std.specs.Prelude.{◌≡◌, ◌/◌, Option, Some, None}
use Rattle.frame_ring.specs.States.{ended_state}
use Rattle.frame_ring.specs.declared.frame_left.FrameLeft.{FrameLeft}
use Rattle.sampler.specs.Past.{Past}
use Rattle.sampler.specs.Standing.{EndStandsAfter}
use Rattle.sampler.specs.State.{SamplerEndState}
use Rattle.slave_outbox.specs.Accounts.{HasPlans}
use Rattle.slave_outbox.specs.Ends.{left_state}
use Rattle.slave_channels.specs.Channels.{FinishedState, Follows, IsOpeningBy, ShareState}

-- the take end of the part is as it was, and what it was opened with
abbrev pub EndStays : Option ShareState → Option ShareState → Type 0
EndStays None None = Unit {0}
EndStays (Some s) (Some t) = (t.intake.end ≡ s.intake.end) × (t.opened ≡ s.opened)
EndStays _ _ = ⊥

-- this is left of the sampler of the part
abbrev pub ComesOf : Option ShareState → SamplerEndState FrameLeft → Type 0
ComesOf None end = ⊥
ComesOf (Some s) end =
    ((ended_state end.end).ring ≡ s.intake.end.ring)
    × (end.capacity ≡ s.opened.capacity / 8)
    × ((past : Past) × EndStandsAfter (left_state end) past × HasPlans past
    × IsOpeningBy s.opened past.opening)

-- the part, finished with this
abbrev pub FinishesAs : Option ShareState → SamplerEndState FrameLeft → FinishedState → Type 0
FinishesAs None end f = ⊥
FinishesAs (Some s) end f =
    (f.number ≡ s.number) × Follows s.intake f.intake
    × (left_state f.end ≡ left_state end) × (f.opened ≡ s.opened)
