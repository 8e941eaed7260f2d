use Rattle.transmitter.specs.Written.{transmission}
use Rattle.c_engine.proofs.LendingLemmas.{out}
use Rattle.c_engine.proofs.OpenedLemmas.{began-stays, fits-same}
use Rattle.c_engine.proofs.handing.next_of.Goals as goal

-- it was opened with the same samplers
pub invariant_of-engine : goal.invariant_of-engine
invariant_of-engine g c =
    let i = c.engine.invariant in
    let same = began-stays c.engine.inside.lending c.next.new.self c.next.result c.next.ensures.ok c.next.ensures.err in
    let fits = fits-same g.R.Send.SendEnd g.R.Send.End.RingEnd c.engine.inside.lending.began c.next.new.self.began
    (transmission out g.R.Take.TakeEnd c.engine.inside.transmitter) same (i.0, i.1, i.2, i.5) in
    (fits.0, fits.1, fits.2, i.3, i.4, fits.3)
