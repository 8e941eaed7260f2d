use Rattle.std.proofs.Common.{◌≤◌, map, take}
use Rattle.sampler.specs.Stays.{KeepsSetUp}
use Rattle.daq_run.specs.Samplings.{HasAnsweredMore}
use Rattle.daq_run.specs.Steps.{asked_of, run_step}
use Rattle.daq_run.proofs.worker.do_own.Given as goal

-- of the first i steps those of the sampler's channel were done
abbrev pub invariant-loop-i : goal.invariant-loop-i
invariant-loop-i g l =
    let send = g.S.SendEnd in
    record {
      does : HasAnsweredMore send g.S.End.RingEnd l.fn.sampler l.sampler (asked_of l.fn.sampler.channel (map run_step (take l.i l.run.steps))) l.refused;
      stays : KeepsSetUp send l.fn.sampler l.sampler;
      few : l.refused ≤ l.i;
      placed : l.place ≤ l.i;
    }
