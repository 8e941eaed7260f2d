use Rattle.slave.proofs.GatheringLemmas.{one-busy, one-newer, one-older}
use Rattle.slave.proofs.slave.Slave.back_at.Goals as goal

-- the older one came back, and nothing else changed
pub returns-in-Some-clause-back : goal.returns-in-Some-clause-back
returns-in-Some-clause-back c = c.in-Some.ensures.back

-- the older one didn't come back
pub returns-then-not-is_over-clause-back : goal.returns-then-not-is_over-clause-back
returns-then-not-is_over-clause-back c = c.in_default.ensures.back

pub returns-in-Some-clause-one : goal.returns-in-Some-clause-one
returns-in-Some-clause-one c =
    one-older c.args.self.now c.take_older.new.self c.args.c c.in-Some.finished c.in-Some.ensures.there

pub returns-then-not-is_over-clause-one : goal.returns-then-not-is_over-clause-one
returns-then-not-is_over-clause-one c =
    one-busy c.args.self.now c.take_older.new.self c.args.c c.in_default.ensures.there c.take_older.ensures.back.session
    (c.is_over.ensures.busy c.if-not-is_over.true) (c.is_over.ensures.newest c.if-not-is_over.true)

pub returns-clause-one : goal.returns-clause-one
returns-clause-one c =
    one-newer c.args.self.now c.take_older.new.self c.take_newer.new.self c.args.c c.take_newer.result c.in_default.ensures.there c.take_newer.ensures.there
