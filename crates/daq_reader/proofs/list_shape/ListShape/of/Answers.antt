use Rattle.std.proofs.Common.{arith}
use Rattle.copy_plan.specs.Config.{IsPlan, plan_of}
use Rattle.copy_plan.proofs.ReadyLemmas.{ready, plan_is}
use Rattle.daq_reader.proofs.list_shape.ListShape.of.Goals as goal
use Rattle.daq_reader.proofs.list_shape.ListShape.of.Goals.{After-of}

-- a ready list makes a plan
planned : (c : After-of) → IsPlan (plan_of c.args.list c.args.conf.now c.args.first_pid c.args.segments.now)
planned c =
    plan_is c.args.list c.args.conf.now c.args.first_pid c.args.segments.now (rw c.items.ensures.value at c.items.ensures.image) c.requires.list
    (omega (arith, c.channel.ensures.limit, c.channel.ensures.value))
    (λ some. omega (arith, c.prescaler.ensures.positive some, c.prescaler.ensures.value))
    c.in_ok-odts.ensures.limit (rw c.form.ensures.value at c.form.ensures.limits) c.requires.pids (ready c.args.segments.now c.args.conf.now c.requires.ready)

pub invariant_of-result : goal.invariant_of-result
invariant_of-result c = rw (c.channel.ensures.value, c.prescaler.ensures.value, c.form.ensures.value, c.stamped.ensures, c.of.ensures, c.in_ok-odts.ensures.value, c.items.ensures.value) (planned c)

pub returns-clause-plan : goal.returns-clause-plan
returns-clause-plan c = rw (c.channel.ensures.value, c.prescaler.ensures.value, c.form.ensures.value, c.stamped.ensures, c.of.ensures, c.in_ok-odts.ensures.value, c.items.ensures.value) (planned c)
