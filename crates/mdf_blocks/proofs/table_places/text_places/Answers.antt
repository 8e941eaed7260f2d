use Rattle.std.proofs.Common.{arith, subst}
use Rattle.mdf_blocks.specs.Placing.{Placing}
use Rattle.mdf_blocks.proofs.TableLemmas.{crossed_rows, placed_all, placed_more}
use Rattle.mdf_blocks.proofs.table_places.text_places.Goals as goal

-- the row crosses one before it
pub returns-then-not-branch : goal.returns-then-not-branch
returns-then-not-branch c =
    let t = c.text_of-text.result in
    let old = c.loop-row.places.items in
    crossed_rows c.args.rows.now old t c.loop-row.row c.loop-row.invariant
    c.text_of-text.ensures.0 c.text_of-text.ensures.1
    (subst (λ done. Placing old t done c.place.new.places.items) c.if-not-branch.true
    c.in_ok-place.ensures)

-- one row more is placed
pub loop-row-preserved : goal.loop-row-preserved
loop-row-preserved c =
    let t = c.text_of-text.result in
    let old = c.loop-row.places.items in
    let new = c.place.new.places.items in
    placed_more c.args.rows.now old new t c.loop-row.row (omega arith) c.loop-row.invariant
    c.text_of-text.ensures.0 c.text_of-text.ensures.1
    (subst (λ done. Placing old t done new) c.if-not-branch.false c.in_ok-place.ensures)

-- all rows are
pub returns : goal.returns
returns c =
    placed_all c.args.rows.now c.loop-row.places.items c.loop-row.row (omega arith)
    c.loop-row.invariant
