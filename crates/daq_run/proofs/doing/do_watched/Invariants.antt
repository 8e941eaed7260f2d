use Rattle.std.proofs.Common.{◌≤◌, ℕ, map, take}
use Rattle.frame_writer.specs.Writing.{WriterState}
use Rattle.sampler.specs.History.{Opening}
use Rattle.daq_engine.specs.Engines.{Stands, engine_state, first_standing}
use Rattle.daq_engine.specs.Samplers.{StayThose}
use Rattle.daq_run.specs.StepRuns.{HasDone}
use Rattle.daq_run.specs.Steps.{run_step}
use Rattle.daq_run.specs.Cames.{TellsCames}
use Rattle.daq_run.specs.Watched.{TellsSteps}
use Rattle.daq_run.proofs.doing.do_watched.Given as goal

-- the first i steps were done
abbrev pub invariant-loop-i : goal.invariant-loop-i
invariant-loop-i g l =
    let send = g.T.Send.SendEnd in
    let ring = g.T.End.RingEnd in
    let a = engine_state g.O.Out g.T.TakeEnd l.fn.engine in
    let b = engine_state g.O.Out g.T.TakeEnd l.engine in
    record {
      few : l.refused ≤ l.i;
      tells : TellsSteps g.W.Watch.notes l.initial.watch l.watch l.i l.refused;
      cames : TellsCames send ring g.W.Watch.notes a b l.initial.watch l.watch (map run_step (take l.i l.run.steps)) l.refused;
      those : StayThose send a.samplers b.samplers;
      does : (start : WriterState) (openings : ℕ → Opening) → Stands send ring a (first_standing start openings)
          → HasDone send ring b start openings (map run_step (take l.i l.run.steps)) l.refused;
    }
