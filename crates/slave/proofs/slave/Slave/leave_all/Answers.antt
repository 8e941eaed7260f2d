use Rattle.std.proofs.Common.{ap, length, arith}
use Rattle.slave_outbox.specs.Outboxes.{origins_in}
use Rattle.slave.proofs.DiscardingLemmas.{leaves-all, leaves-next, leaves-none}
use Rattle.slave.proofs.slave.Slave.leave_all.Goals as goal

pub loop-i-init : goal.loop-i-init
loop-i-init c = leaves-none c.args.self.now

-- one more
pub loop-i-preserved : goal.loop-i-preserved
loop-i-preserved c =
    leaves-next c.loop-i.i c.args.self.now c.loop-i.self c.leave.new.self _ c.origin-origin.result c.self-in-loop-i.view_is c.origin-origin.ensures c.loop-i.invariant c.leave.ensures.leaves

pub returns : goal.returns
returns c = record {
  leaves = leaves-all c.loop-i.i (length (origins_in c.args.self.now.outbox.waits)) c.args.self.now c.loop-i.self
      (omega (arith, c.loop-i.auto.i-end, c.loop-i-test.false, c.len-i-end.ensures, ap (λ s. length (origins_in s.outbox.waits)) c.self.view_is)) c.loop-i.invariant;
}
