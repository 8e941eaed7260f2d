-- A whole run of an engine in one thread, call by call.
use Rattle.std.specs.Prelude.{ℕ, [], List, Result, true}
use Rattle.channel_ring.specs.declared.ends.SendEnd.{Ghosts as SendGhosts}
use Rattle.channel_ring.specs.declared.ends.RingEnd.{Ghosts as EndGhosts}
use Rattle.daq_engine.specs.Closings.{ClosesEngine}
use Rattle.daq_engine.specs.Engines.{EngineState, LeadsTo, Standing, Stands, StaysBut}
use Rattle.daq_engine.specs.Engines.{first_standing}
use Rattle.daq_engine.specs.Events.{PumpsOn, TakesAt, decisions_at, with_event, with_taken}
use Rattle.daq_engine.specs.Openings.{AreOpened}
use Rattle.daq_engine.specs.declared.report.Report.{Report}
use Rattle.daq_store.specs.Standing.{StoreState}
use Rattle.frame_writer.specs.Shown.{OutState}
use Rattle.frame_writer.specs.Writing.{fresh_writer}
use Rattle.sampler.specs.History.{Event, Opening, Start, Stop, Trigger}
use Rattle.sampler.specs.declared.taken.Taken.{Taken}
use Rattle.transmitter.specs.declared.faults.PumpFault.{PumpFault}
use Rattle.transmitter.specs.declared.pumped.Pumped.{Pumped}

-- event channel 0 of an engine has one event more behind it, and nothing else changed
pub record Accepts {S E : Type 0} (send : SendGhosts S E) (ring : EndGhosts E)
    (before after : EngineState S) (event : Event)
    : Type 0 where
  pub leads : LeadsTo send ring before after (with_event 0 event [])
  pub others_stay : StaysBut send 0 before after

-- an engine that stood so took a trigger of event channel 0, pumped, stopped list 0 and started it
-- again, and was closed with this report and this writer. Each state is the one that the call of
-- its name led to from the state above it, and it is the last one that was closed
pub record RunsOnce {S E : Type 0} (send : SendGhosts S E) (ring : EndGhosts E)
    (engine : EngineState S) (st : Standing) (image : List ℕ) (stamp : ℕ) (report : Report)
    (out : OutState)
    : Type 0 where
  pub taken : Taken
  pub triggered : EngineState S
  pub triggers : TakesAt send ring engine triggered 0 taken st image stamp
  pub others_stay : StaysBut send 0 engine triggered
  pub answer : Result Pumped PumpFault
  pub pumped : EngineState S
  pub pumps : PumpsOn send ring triggered pumped answer
  pub stopped : EngineState S
  pub stops : Accepts send ring pumped stopped (Stop 0)
  pub started : EngineState S
  pub starts : Accepts send ring stopped started (Start 0)
  pub closes :
      ClosesEngine send ring true started
      (with_event 0 (Start 0) [] (with_event 0 (Stop 0) []
      (with_taken pumps.step.pumps.taken
      (with_event 0 (Trigger image stamp) (decisions_at st.past 0 taken image stamp) st))))
      report out

-- an engine was opened over a store with these capacities, on a new frame writer over this writer,
-- and ran so
pub record RecordsOnce {S E : Type 0} (send : SendGhosts S E) (ring : EndGhosts E)
    (store : StoreState) (caps : List ℕ) (before : OutState) (image : List ℕ) (stamp : ℕ)
    (report : Report) (out : OutState)
    : Type 0 where
  pub openings : ℕ → Opening
  pub engine : EngineState S
  pub opened : AreOpened send ring store caps engine.samplers openings
  pub stands : Stands send ring engine (first_standing (fresh_writer before) openings)
  pub runs :
      RunsOnce send ring engine (first_standing (fresh_writer before) openings) image stamp report
      out
