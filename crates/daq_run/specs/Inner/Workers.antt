-- What the threads of the event channels do.
use Rattle.std.specs.Prelude.{◌≡◌, ℕ, ◌+◌, Bool, false, List, [], ◌∷◌, ◌++◌, nat_eq}
use Rattle.std.specs.Prelude.{IfSome, Option, count_by}
use Rattle.channel_ring.specs.declared.ends.SendEnd.{Ghosts as SendGhosts}
use Rattle.channel_ring.specs.declared.ends.RingEnd.{Ghosts as EndGhosts}
use Rattle.sampler.specs.History.{Event, Opening}
use Rattle.sampler.specs.Past.{Past, first_past}
use Rattle.sampler.specs.Standing.{EndStandsAfter, StandsAfter}
use Rattle.sampler.specs.State.{JoinedEnd, SamplerEndState, SamplerState, joined}
use Rattle.transmitter.specs.Pumps.{TakesMore}
use Rattle.transmitter.specs.Written.{TransmitterState}
use Rattle.daq_run.specs.declared.sim_fault.SimFault.{SimFault}
use Rattle.daq_run.specs.declared.sim_fault.SimFault.TheVariants.{EndLost, Memory, NoThread}
use Rattle.daq_run.specs.declared.sim_fault.SimFault.TheVariants.{NothingRunning, SetupWrite}
use Rattle.daq_run.specs.Answers.{Answered, AreAnswered, Setting}
use Rattle.daq_run.specs.Samplings.{setting_of_sampler, was_refused}
use Rattle.daq_run.specs.Steps.{Ask, Pump, RunStep, asked_of}

-- the step is of channel c
abbrev pub is_of : ℕ → RunStep → Bool
is_of c (Ask k event) = nat_eq c k
is_of c Pump = false

-- from its opening on, the sampler of which this is the end was asked for these, of which so many
-- were refused
pub record EndHasAnswered (s : Setting) (e : JoinedEnd) (opening : Opening) (asked : List Event)
    (refused : ℕ)
    : Type 0 where
  -- fixed by `opened`, `answered` and `stands`
  pub past : Past
  pub opened : past.opening ≡ opening
  -- fixed by `answered`, but for which stops found no room
  pub told : List Answered
  pub answered : AreAnswered s asked told past
  pub counted : refused ≡ count_by was_refused told
  pub stands : EndStandsAfter e past

-- what is left of a sampler that was asked for what the steps ask of its channel, of which so many
-- were refused
pub record IsLeftAfterSteps {S E : Type 0} (send : SendGhosts S E) (ring : EndGhosts E)
    (before : SamplerState S) (steps : List RunStep) (left : SamplerEndState E) (refused : ℕ)
    : Type 0 where
  pub channel : left.channel ≡ before.channel
  pub one_ring : ring.ring left.end ≡ send.ring before.end
  pub capacity : left.capacity ≡ send.capacity before.end
  pub answers :
      (opening : Opening) → StandsAfter send ring before (first_past opening)
      → EndHasAnswered (setting_of_sampler send ring before) (joined ring left) opening
      (asked_of before.channel steps) refused

-- to the ends of other samplers comes that of a sampler that was asked for what the steps ask of
-- its channel, of which so many were refused
pub record IsOneMoreLeft {S E : Type 0} (send : SendGhosts S E) (ring : EndGhosts E)
    (before : SamplerState S) (steps : List RunStep) (ends more : List (SamplerEndState E))
    (refused : ℕ)
    : Type 0 where
  -- fixed by `appended`
  pub left : SamplerEndState E
  pub appended : more ≡ ends ++ left ∷ []
  pub is_left : IsLeftAfterSteps send ring before steps left refused

-- a sampler did the steps of its channel, of which so many were refused, and was finished: what is
-- left of it, if anything is
abbrev pub HasWorked :
    {S E : Type 0} → SendGhosts S E → EndGhosts E → SamplerState S → List RunStep
    → Option (SamplerEndState E) → ℕ → Type 0
HasWorked send ring before steps end refused =
    IfSome end (λ left. IsLeftAfterSteps send ring before steps left refused)

-- so did some samplers: what is left of each, in their order, and so many were refused in all
abbrev pub HaveWorked :
    {S E : Type 0} → SendGhosts S E → EndGhosts E → List (SamplerState S) → List RunStep
    → List (SamplerEndState E) → ℕ → Type 0
HaveWorked send ring [] steps [] refused = refused ≡ 0
HaveWorked send ring (s ∷ samplers) steps (e ∷ ends) refused =
    (own : ℕ) × IsLeftAfterSteps send ring s steps e own
    × ((others : ℕ) × HaveWorked send ring samplers steps ends others
    × (refused ≡ own + others))
HaveWorked send ring _ steps _ refused = ⊥

-- a transmitter took some items more of the same rings, or none
pub record KeepsTaking (before after : TransmitterState) : Type 0 where
  pub more : TakesMore before after
  pub rings : after.rings ≡ before.rings

-- such a fault may come once the engine was opened
abbrev pub MayComeLate : SimFault → Type 0
MayComeLate Memory = Unit {0}
MayComeLate NothingRunning = ⊥
MayComeLate SetupWrite = ⊥
MayComeLate EndLost = Unit {0}
MayComeLate NoThread = Unit {0}
