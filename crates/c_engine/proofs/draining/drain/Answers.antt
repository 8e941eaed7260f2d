use Rattle.std.proofs.Common.{◌≤◌, ◌∙◌, ap, arith, length}
use Rattle.std.proofs.lemmas.Grind.{common_steps}
use Rattle.transmitter.specs.Written.{transmission}
use Rattle.c_engine.specs.declared.pumping.TheConstants.{PUMP_BYTES}
use Rattle.c_engine.proofs.EndLemmas.{drains-none, drains-some, looked-at-all}
use Rattle.c_engine.proofs.LendingLemmas.{out}
use Rattle.c_engine.proofs.OpenedLemmas.{fits-looked, fits-same}
use Rattle.c_engine.proofs.draining.drain.Goals as goal

-- something is left, and is pumped
pub returns-then-left : goal.returns-then-left
returns-then-left g c =
    let give = g.R.Take.TakeEnd in
    let send = g.R.Send.SendEnd in
    let ring = g.R.Send.End.RingEnd in
    let room : PUMP_BYTES ≤ length c.args.buffer.now = grind (arith, common_steps) in
    drains-some out give send ring _ _ _ c.pump.result room
    (looked-at-all out give send ring c.look.new.transmitter c.engine.view_is c.collect.ensures.began c.collect.ensures.samplers c.collect.ensures.ends c.look.ensures.looks)
    (c.look.ensures.some c.if-left.true) c.if-left.true c.pump.ensures

-- nothing is left
pub returns : goal.returns
returns g c =
    let give = g.R.Take.TakeEnd in
    let send = g.R.Send.SendEnd in
    let ring = g.R.Send.End.RingEnd in
    let room : PUMP_BYTES ≤ length c.args.buffer.now = grind (arith, common_steps) in
    drains-none out give send ring _ _ room
    (looked-at-all out give send ring c.look.new.transmitter c.engine.view_is c.collect.ensures.began c.collect.ensures.samplers c.collect.ensures.ends c.look.ensures.looks)
    (c.look.ensures.none c.if-left.false) c.if-left.false
    (ap (λ p. record { buffer = c.args.buffer.now; len = 0; pumped = p }) c.nothing.ensures)

-- what comes back leaves what it was opened with
pub invariant_of-engine : goal.invariant_of-engine
invariant_of-engine g c =
    let i = c.engine.invariant in
    let fits = fits-same g.R.Send.SendEnd g.R.Send.End.RingEnd c.engine.inside.lending.began c.collect.new.self.began
    (transmission out g.R.Take.TakeEnd c.engine.inside.transmitter) c.collect.ensures.began (i.0, i.1, i.2, i.5) in
    (fits.0, fits.1, fits.2, i.3, i.4, fits.3)

-- a look leaves what it was opened with
pub invariant_of-engine-then-left : goal.invariant_of-engine-then-left
invariant_of-engine-then-left g c =
    let i = c.engine.invariant in
    let give = g.R.Take.TakeEnd in
    let fits = fits-looked g.R.Send.SendEnd g.R.Send.End.RingEnd c.engine.inside.lending.began c.look.new.self.began
    (transmission out give c.engine.inside.transmitter) (transmission out give c.look.new.transmitter)
    (c.look.ensures.looks.began ∙ c.collect.ensures.began) c.look.ensures.looks.looked (i.0, i.1, i.2, i.5) in
    (fits.0, fits.1, fits.2, i.3, i.4, fits.3)

pub invariant_of-engine-else-left : goal.invariant_of-engine-else-left
invariant_of-engine-else-left g c =
    let i = c.engine.invariant in
    let give = g.R.Take.TakeEnd in
    let fits = fits-looked g.R.Send.SendEnd g.R.Send.End.RingEnd c.engine.inside.lending.began c.look.new.self.began
    (transmission out give c.engine.inside.transmitter) (transmission out give c.look.new.transmitter)
    (c.look.ensures.looks.began ∙ c.collect.ensures.began) c.look.ensures.looks.looked (i.0, i.1, i.2, i.5) in
    (fits.0, fits.1, fits.2, i.3, i.4, fits.3)
