use Rattle.std.proofs.Common.{◌≡◌, subst, arith}
use Rattle.xcp_base.specs.declared.limits.TheConstants.{MAX_LISTS}
use Rattle.slave_channels.specs.AccountInner.{AddsBelow}
use Rattle.slave_channels.proofs.AccountLemmas.{added-more, added-none}
use Rattle.slave_channels.proofs.account.add_lines.Goals as goal

pub loop-l-init : goal.loop-l-init
loop-l-init c = record { adds = added-none _ c.args.behind c.args.lists.now }

pub loop-l-preserved : goal.loop-l-preserved
loop-l-preserved c = record {
  adds = added-more _ c.args.behind c.loop-l.l c.args.lists.now c.loop-l.lists c.add_line.new.lists c.line_of.result c.loop-l.invariant.adds (rw c.at-list.ensures at c.line_of.ensures.line) (rw c.at-list.ensures at c.add_line.ensures.changes);
}

-- all lists were added
pub returns : goal.returns
returns c =
    let all : c.loop-l.l ≡ MAX_LISTS = omega (arith, c.loop-l-test.false, c.loop-l.auto.l-end) in
    record {
      adds = subst (λ n. AddsBelow c.args.finished.now c.args.behind n c.args.lists.now c.loop-l.lists) all c.loop-l.invariant.adds;
    }
