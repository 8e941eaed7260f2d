use Rattle.std.proofs.Common.{◌≡◌, subst, arith}
use Rattle.xcp_base.specs.declared.limits.TheConstants.{MAX_LISTS}
use Rattle.slave_channels.specs.AccountInner.{ChangesBelow, advanced}
use Rattle.slave_channels.proofs.AccountLemmas.{changed-more, changed-none}
use Rattle.slave_channels.proofs.account.advance_lists.Goals as goal

pub loop-l-init : goal.loop-l-init
loop-l-init c = record { changes = changed-none c.args.lists.now advanced }

pub loop-l-preserved : goal.loop-l-preserved
loop-l-preserved c = record {
  changes = changed-more c.loop-l.l c.args.lists.now c.loop-l.lists c.advance_list.new.lists advanced c.loop-l.invariant.changes (rw c.at.ensures at c.advance_list.ensures.changes);
}

-- it began in all
pub returns : goal.returns
returns c =
    let all : c.loop-l.l ≡ MAX_LISTS = omega (arith, c.loop-l-test.false, c.loop-l.auto.l-end) in
    record {
      changes = subst (λ n. ChangesBelow n c.args.lists.now c.loop-l.lists advanced) all c.loop-l.invariant.changes;
    }
