use Rattle.transmitter.specs.Written.{transmission}
use Rattle.c_engine.proofs.LendingLemmas.{out}
use Rattle.c_engine.proofs.OpenedLemmas.{fits-pumped}
use Rattle.c_engine.proofs.pumping.pump.Goals as goal

-- a pump leads on what it was opened with
pub invariant_of-engine : goal.invariant_of-engine
invariant_of-engine g c =
    let i = c.engine.invariant in
    let give = g.R.Take.TakeEnd in
    let e = c.pump_into.ensures in
    let fits = fits-pumped g.R.Send.SendEnd g.R.Send.End.RingEnd c.engine.inside.lending.began _ _
    (transmission out give c.engine.inside.transmitter) (transmission out give c.pump_into.new.self) c.pump_into.result
    e.ok e.err (i.0, i.1, i.2, i.5) in
    (fits.0, fits.1, fits.2, i.3, i.4, fits.3)
