use Rattle.std.proofs.Common.{arith, get_or, []}
use Rattle.std.proofs.lemmas.List.{get_or_default}
use Rattle.std.proofs.lemmas.List.Edits.{map_over_more}
use Rattle.curve_picture.specs.declared.row.Row.{Row}
use Rattle.curve_picture.specs.Inner.{doubled_row}
use Rattle.curve_picture.proofs.picture.double_all.Goals as goal

-- what is read beyond the rows
abbrev blank : Row
blank = record { values = 0; first = 0; last = 0; bins = [] }

-- one row more is doubled
pub loop-row-preserved : goal.loop-row-preserved
loop-row-preserved c =
    let row : Row = get_or c.loop-row.rows c.loop-row.row-index blank in
    rw c.double.ensures
    (map_over_more (doubled_row c.args.from c.args.count) c.args.rows.now c.loop-row.rows c.loop-row.row-index row c.loop-row-test.true c.loop-row.invariant (get_or_default c.loop-row.rows c.loop-row.row-index blank row (omega (arith, c.loop-row-test.true, c.loop-row.auto.rows))))
