use Rattle.std.proofs.Common.{◌*◌, ◌+◌, length, ap, arith}
use Rattle.xcp_base.specs.declared.limits.TheConstants.{MAX_CHANNELS}
use Rattle.slave.specs.Standing.{SlaveState}
use Rattle.slave.proofs.CollectingLemmas.{collects-more, collects-nothing, collects-within}
use Rattle.slave.proofs.GatheringLemmas.{came-all, came-more, came-none}
use Rattle.slave.proofs.slave.Slave.collect.Goals as goal

pub loop-c-init : goal.loop-c-init
loop-c-init c = (collects-nothing c.args.self.now, came-none c.args.self.now)

pub loop-c-preserved : goal.loop-c-preserved
loop-c-preserved c = (
  collects-within (2 * c.loop-c.c + 2) (2 * (c.loop-c.c + 1)) c.args.self.now c.collect_at.new.self (omega arith)
      (collects-more (2 * c.loop-c.c) 2 c.args.self.now c.loop-c.self c.collect_at.new.self c.loop-c.invariant.0 c.collect_at.ensures.collects),
  came-more c.loop-c.c c.args.self.now c.loop-c.self c.collect_at.new.self c.collect_at.ensures.collects.session c.loop-c.invariant.1 c.collect_at.ensures.all,
)

-- there are no more event channels than a slave may have
pub returns : goal.returns
returns c =
    let within = c.loop-c.auto.c-end in
    let limit = c.len-c-end.ensures.limit in
    let here = c.len-c-end.ensures.value in
    let there = ap (λ (s : SlaveState). length s.channels) c.self.view_is in
    let as_many = c.loop-c.invariant.0.as_many in
    let done = c.loop-c-test.false in
    record {
      collects = collects-within (2 * c.loop-c.c) (2 * MAX_CHANNELS) c.args.self.now c.loop-c.self (omega (arith, within, limit)) c.loop-c.invariant.0;
      all = came-all c.loop-c.c c.loop-c.self (omega (arith, here, there, done, as_many)) c.loop-c.invariant.1;
    }
