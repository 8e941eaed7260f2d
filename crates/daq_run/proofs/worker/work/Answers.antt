use Rattle.std.proofs.Common.{map}
use Rattle.daq_run.specs.Steps.{run_step}
use Rattle.daq_run.proofs.WorkLemmas.{worked}
use Rattle.daq_run.proofs.worker.work.Goals as goal

-- it did the steps of its channel, and was finished
pub returns : goal.returns
returns g c =
    let e = c.finish-end.ensures in
    let d = c.do_own-refused.ensures in
    worked g.S.SendEnd g.S.End.RingEnd c.args.sampler c.do_own-refused.new.sampler (map run_step c.args.run.now.steps) c.do_own-refused.result c.finish-end.result
    d.set_up_stays d.does e.stands e.channel e.ring e.capacity
