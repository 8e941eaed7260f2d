-- What comes of a step of an engine: what the call that it asks for answered.
use Rattle.std.specs.Prelude.{◌≡◌, ℕ, List, [], ◌∷◌, count_by, Ok, Err}
use Rattle.channel_ring.specs.declared.ends.SendEnd.{Ghosts as SendGhosts}
use Rattle.channel_ring.specs.declared.ends.RingEnd.{Ghosts as EndGhosts}
use Rattle.sampler.specs.History.{Start, Stop, Trigger}
use Rattle.daq_engine.specs.Asking.{AsksStart, AsksStop, AsksTrigger}
use Rattle.daq_engine.specs.Engines.{EngineState}
use Rattle.daq_engine.specs.Events.{PumpsOn}
use Rattle.daq_engine.specs.declared.channel_fault.ChannelFault.TheVariants as channel
use Rattle.daq_run.specs.declared.came.Came.{Came}
use Rattle.daq_run.specs.declared.came.Came.TheVariants.{Pumped, Refused, Stuck, Switched, Taken}
use Rattle.daq_run.specs.declared.cause.Cause.TheVariants.{Start as OfStart, Stop as OfStop}
use Rattle.daq_run.specs.declared.cause.Cause.TheVariants.{Trigger as OfTrigger}
use Rattle.daq_run.specs.Steps.{Ask, Pump, RunStep}
use Rattle.daq_run.specs.Watched.{IsTold, is_refusal}

-- this came of a step: an engine answered it to the trigger, the start, the stop or the pump that
-- the step asks for
abbrev pub IsCame :
    {S E : Type 0} → SendGhosts S E → EndGhosts E → EngineState S → EngineState S → RunStep → Came
    → Type 0
IsCame send ring a b (Ask c (Trigger image stamp)) (Taken taken) =
    AsksTrigger send ring a b c image stamp (Ok taken)
IsCame send ring a b (Ask c (Trigger image stamp)) (Refused (OfTrigger fault)) =
    AsksTrigger send ring a b c image stamp (Err (channel.Refused fault))
IsCame send ring a b (Ask c (Start l)) Switched = AsksStart send ring a b c l (Ok tt)
IsCame send ring a b (Ask c (Start l)) (Refused (OfStart fault)) =
    AsksStart send ring a b c l (Err (channel.Refused fault))
IsCame send ring a b (Ask c (Stop l)) Switched = AsksStop send ring a b c l (Ok tt)
IsCame send ring a b (Ask c (Stop l)) (Refused (OfStop fault)) =
    AsksStop send ring a b c l (Err (channel.Refused fault))
IsCame send ring a b Pump (Pumped pumped) = PumpsOn send ring a b (Ok pumped)
IsCame send ring a b Pump (Stuck fault) = PumpsOn send ring a b (Err fault)
IsCame send ring a b _ _ = ⊥

-- an engine did these steps one after another, and this came of each
abbrev pub AreCames :
    {S E : Type 0} → SendGhosts S E → EndGhosts E → EngineState S → List RunStep → List Came
    → EngineState S → Type 0
AreCames send ring a [] [] b = b ≡ a
AreCames send ring a (step ∷ steps) (came ∷ cames) b =
    (m : EngineState _) × IsCame send ring a m step came × AreCames send ring m steps cames b
AreCames send ring a _ _ b = ⊥

-- a watch was told what came of each of these steps, once and in order, and so many were refused
pub record TellsCames {S E W : Type 0} (send : SendGhosts S E) (ring : EndGhosts E)
    (notes : W → Came → W → Type 0) (a b : EngineState S) (before after : W)
    (steps : List RunStep) (refused : ℕ)
    : Type 0 where
  -- what came of each step: fixed by `came`, which says how the engine went on
  pub cames : List Came
  pub told : IsTold notes before after cames
  pub came : AreCames send ring a steps cames b
  pub counted : refused ≡ count_by is_refusal cames
