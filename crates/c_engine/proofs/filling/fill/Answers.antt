use Rattle.transmitter.specs.Written.{transmission}
use Rattle.c_engine.proofs.LendingLemmas.{out}
use Rattle.c_engine.proofs.OpenedLemmas.{fits-filled}
use Rattle.c_engine.proofs.filling.fill.Goals as goal

-- the pumps lead on what it was opened with
pub invariant_of-engine : goal.invariant_of-engine
invariant_of-engine g c =
    let i = c.engine.invariant in
    let give = g.R.Take.TakeEnd in
    let e = c.pump_all.ensures in
    let fits = fits-filled g.R.Send.SendEnd g.R.Send.End.RingEnd c.engine.inside.lending.began _ _
    (transmission out give c.engine.inside.transmitter) (transmission out give c.pump_all.new.self) c.pump_all.result
    e.ok e.err (i.0, i.1, i.2, i.5) in
    (fits.0, fits.1, fits.2, i.3, i.4, fits.3)
