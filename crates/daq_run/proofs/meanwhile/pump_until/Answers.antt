use Rattle.std.proofs.Common.{refl, ◌∙◌}
use Rattle.transmitter.specs.Written.{transmission}
use Rattle.daq_run.proofs.WorkLemmas.{takes_none, takes_on}
use Rattle.daq_run.proofs.meanwhile.pump_until.Goals as goal

-- nothing was taken yet
pub loop-init : goal.loop-init
loop-init g c = record { more = takes_none (transmission g.O.Out g.T.TakeEnd c.args.transmitter.now); rings = refl }

-- a pump takes some more
pub loop-preserved : goal.loop-preserved
loop-preserved g c =
    let i = c.loop.invariant in
    let e = c.pumps_some.ensures in
    record { more = takes_on _ _ _ i.more e.more; rings = e.rings ∙ i.rings }

pub loop-preserved-then-not-pumps_some : goal.loop-preserved-then-not-pumps_some
loop-preserved-then-not-pumps_some g c =
    let i = c.loop.invariant in
    let e = c.pumps_some.ensures in
    record { more = takes_on _ _ _ i.more e.more; rings = e.rings ∙ i.rings }
