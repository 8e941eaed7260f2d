use Rattle.std.proofs.Common.{◌+◌, arith}
use Rattle.sample_picture.proofs.RowsLemmas.{doubled_is_fine, near_doubled, wider_is_fine}
use Rattle.curve_picture.proofs.GatheredLemmas.{doubled_rows}
use Rattle.curve_picture.proofs.picture.reach.Goals as goal

-- bins that were as fine as could be still are
pub loop-width-init : goal.loop-width-init
loop-width-init c = (
  c.args.grid.positive,
  c.args.grid.near,
  wider_is_fine c.args.grid.width c.args.grid.first c.args.grid.last c.min-first.result c.max-last.result (omega (arith, c.min-first.ensures)) (omega (arith, c.max-last.ensures)) c.args.grid.fine,
  λ given in_range stood. stood,
)

-- bins of twice as many places keep what those before kept
pub loop-width-preserved : goal.loop-width-preserved
loop-width-preserved c =
    let inv = c.loop-width.invariant in (
      omega (arith, inv.0),
      near_doubled c.loop-width.width c.args.grid.first c.args.grid.last inv.1,
      doubled_is_fine c.loop-width.width c.min-first.result c.max-last.result (omega (arith, c.loop-width-test.true)),
      λ given in_range stood.
          rw c.double_all.ensures
          (doubled_rows c.loop-width.rows c.loop-width.width c.args.grid.first c.args.grid.last (c.saturating_sub-count.result + 1) given inv.0 in_range (omega arith) inv.1 (omega arith) (inv.3 given in_range stood)),
    )
