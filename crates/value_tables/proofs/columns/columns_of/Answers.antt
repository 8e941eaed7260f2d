use Rattle.std.proofs.Common.{◌≡◌, ◌++◌, ◌∷◌, [], ◌+◌, ◌<◌, List, ap, arith, length, subst, sym}
use Rattle.std.proofs.Common.{take, ◌∙◌}
use Rattle.std.specs.Prelude.{Some, filter, slice_get}
use Rattle.std.specs.List.{AllZip}
use Rattle.std.specs.Option.{option_copied}
use Rattle.sample_tables.proofs.PrintedLemmas.{there}
use Rattle.value_tables.specs.Columns.{IsColumnOf, is_shown}
use Rattle.value_tables.specs.declared.column.Column.{Column}
use Rattle.value_tables.proofs.ColumnLemmas.{column_more, column_not}
use Rattle.value_tables.proofs.columns.columns_of.Goals.{else-is_shown}
use Rattle.value_tables.proofs.columns.columns_of.Goals.{then-is_shown+in_ok-push}
use Rattle.value_tables.proofs.columns.columns_of.Goals as goal

-- the column of the measurement stands behind those before, if it is shown
pub loop-i-preserved : goal.loop-i-preserved
loop-i-preserved g c =
    let d = c.args.description.now in
    let p = is_shown (option_copied c.args.only) (g.H.Holder.held c.args.holder.now) in
    let ms = d.measurements.items in
    let m = c.index-measurement.result.now in
    let within : c.loop-i.i < length ms = omega (arith, c.loop-i-test.true, c.len-i-end.ensures) in
    let at : slice_get ms c.loop-i.i ≡ Some m =
    there ms c.loop-i.i m within c.index-measurement.ensures in
    let cs = c.loop-i.columns.items in
    let front = filter p (take (c.loop-i.i + 1) ms) in
    let Are = λ (all : List Column). AllZip (IsColumnOf d) front all in
    elim c.if-is_shown.branch [
      | then-is_shown+in_ok-push w ↦
          let column = w.column_of.result in
          let is : c.if-is_shown.columns.items ≡ cs ++ column ∷ [] =
          ap (λ v. v.items) w.columns-is ∙ w.in_ok-push.ensures.items in
          let shown = sym c.is_shown.ensures ∙ w.if-is_shown.true in
          let more = column_more d p c.loop-i.i m cs column at shown w.column_of.ensures in
          subst Are (sym is) (more c.loop-i.invariant)
      | else-is_shown w ↦
          let out = sym c.is_shown.ensures ∙ w.if-is_shown.false in
          let same = column_not d p c.loop-i.i m cs at out c.loop-i.invariant in
          subst Are (sym (ap (λ v. v.items) w.columns-is)) same
    ]
