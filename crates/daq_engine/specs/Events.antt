-- What a call adds to what an engine stands after: an event of a channel, or the items of a pump.
use Rattle.std.specs.Prelude.{◌≡◌, ℕ, Bool, cond, List, ◌++◌, length, nat_eq, slice_get}
use Rattle.std.specs.Prelude.{Result, Some}
use Rattle.xcp_base.specs.declared.item.Item.{Item}
use Rattle.channel_ring.specs.declared.ends.SendEnd.{Ghosts as SendGhosts}
use Rattle.channel_ring.specs.declared.ends.RingEnd.{Ghosts as EndGhosts}
use Rattle.sampler.specs.History.{Event, Trigger}
use Rattle.sampler.specs.Standing.{TakesTrigger, decisions_of}
use Rattle.sampler.specs.State.{SamplerState}
use Rattle.sampler.specs.declared.taken.Taken.{Taken}
use Rattle.transmitter.specs.Merge.{of_ring}
use Rattle.transmitter.specs.declared.pumped.Pumped.{Pumped}
use Rattle.transmitter.specs.declared.faults.PumpFault.{PumpFault}
use Rattle.sampler.specs.Past.{Past, one_more}
use Rattle.daq_engine.specs.Engines.{EngineState, LeadsTo, Standing, Stands}
use Rattle.daq_engine.specs.PumpSteps.{IsPumpStep}
use Rattle.daq_engine.specs.Samplers.{AllOnlyLooked, AreRoomy, sent_of_each}
use Rattle.daq_engine.specs.Standings.{StandInOrder}

-- channel c has one event more behind it, and these decisions of the lists that it found due
abbrev pub past_with : ℕ → Event → List Bool → (ℕ → Past) → ℕ → Past
past_with c event ds past k =
    let more = one_more (past k) event ds in
    record {
      opening = (past k).opening;
      history = cond (nat_eq k c) more.history (past k).history;
      decisions = cond (nat_eq k c) more.decisions (past k).decisions;
    }

abbrev pub with_event : ℕ → Event → List Bool → Standing → Standing
with_event c event ds st = record st { past = past_with c event ds st.past }

-- these items more were taken
abbrev pub with_taken : List (ℕ × Item) → Standing → Standing
with_taken qs st = record st { taken = st.taken ++ qs }

-- for each list that channel c found due at a trigger, whether its sample was accepted
abbrev pub decisions_at : (ℕ → Past) → ℕ → Taken → List ℕ → ℕ → List Bool
decisions_at past c taken image stamp = decisions_of taken (past c) (Trigger image stamp)

-- the sampler of channel c took a trigger: what that says of itself, and how the samplers stand
pub record TriggersAt {S E : Type 0} (send : SendGhosts S E) (ring : EndGhosts E)
    (before after : List (SamplerState S)) (c : ℕ) (taken : Taken) (past : ℕ → Past)
    (image : List ℕ) (stamp : ℕ)
    : Type 0 where
  -- fixed by `was` and `is`
  pub old : SamplerState S
  pub new : SamplerState S
  pub was : slice_get before c ≡ Some old
  pub is : slice_get after c ≡ Some new
  pub takes :
      TakesTrigger send ring old new taken (past c) image stamp
  pub stand :
      StandInOrder send ring after
      (past_with c (Trigger image stamp) (decisions_at past c taken image stamp) past)

-- an engine that stood so took a trigger of channel c: it stands with one event more
pub record TakesAt {S E : Type 0} (send : SendGhosts S E) (ring : EndGhosts E)
    (before after : EngineState S) (c : ℕ) (taken : Taken) (st : Standing) (image : List ℕ)
    (stamp : ℕ)
    : Type 0 where
  pub at : TriggersAt send ring before.samplers after.samplers c taken st.past image stamp
  pub stands :
      Stands send ring after
      (with_event c (Trigger image stamp) (decisions_at st.past c taken image stamp) st)

-- and so it did whatever it stood after
abbrev pub Triggers :
    {S E : Type 0} → SendGhosts S E → EndGhosts E → EngineState S → EngineState S → ℕ → Taken
    → List ℕ → ℕ → Type 0
Triggers send ring before after c taken image stamp =
    (st : Standing) → Stands send ring before st
    → TakesAt send ring before after c taken st image stamp

-- an engine pumped: what was sent stays, and it stands with the items taken that the step took
pub record PumpsOn {S E : Type 0} (send : SendGhosts S E) (ring : EndGhosts E)
    (before after : EngineState S) (answer : Result Pumped PumpFault)
    : Type 0 where
  pub step :
      IsPumpStep (length before.samplers) (of_ring (sent_of_each send before.samplers))
      before.transmitter after.transmitter answer
  pub samplers : AllOnlyLooked send ring before.samplers after.samplers
  pub stands : LeadsTo send ring before after (with_taken step.pumps.taken)
  pub roomy : AreRoomy send ring after.samplers after.transmitter
