use Rattle.std.proofs.Common.{◌≡◌, ◌++◌, ◌∷◌, [], ◌+◌, ◌∙◌, All, List, ap, arith, length, subst}
use Rattle.std.proofs.Common.{sym}
use Rattle.std.proofs.Common.{take}
use Rattle.std.proofs.lemmas.List.{take_all, take_more}
use Rattle.std.proofs.lemmas.List.Elements.{All-push}
use Rattle.mdf_groups.proofs.PlaceLemmas.{own_count, own_more, placed_count, placed_more}
use Rattle.mdf_groups.specs.Places.{ArePlaced, ColumnLiesIn}
use Rattle.mdf_groups.specs.declared.placed_column.PlacedColumn.{PlacedColumn}
use Rattle.mdf_groups.proofs.record_form.RecordForm.of.Goals as goal

-- one column more
pub loop-column-preserved : goal.loop-column-preserved
loop-column-preserved c =
    let front = c.args.front in
    let len = c.args.sample_bytes in
    let columns = c.args.columns.now in
    let i = c.loop-column.column-index in
    let item = c.column-item.result in
    let own = c.loop-column.own.items in
    let places = c.loop-column.places.items in
    let own2 = c.add_place.new.own.items in
    let places2 = c.add_place.new.places.items in
    let before = c.loop-column.invariant in
    let added = c.in_ok-add_place.ensures in
    let more : take (i + 1) columns ≡ take i columns ++ item ∷ [] =
    take_more columns i item (omega arith)
    ∙ ap (λ (x : PlacedColumn). take i columns ++ x ∷ []) (sym c.column-item.is) in (
      subst (λ (cs : List PlacedColumn). ArePlaced front len 0 cs places2 own2) (sym more)
          (placed_more front len (take i columns) own places own2 places2 item before.0
          added.adds),
      added.fits,
      own_more front len own places own2 places2 item added.adds added.inside before.2,
      subst (λ (cs : List PlacedColumn). All (ColumnLiesIn len) cs) (sym more)
          (All-push (ColumnLiesIn len) (take i columns) item before.3 added.inside),
      omega (arith, before.4, own_count front len own places own2 places2 item added.adds),
    )

-- a place for each column
pub returns-clause-count : goal.returns-clause-count
returns-clause-count c =
    let columns = c.args.columns.now in
    let i = c.loop-column.column-index in
    placed_count c.args.front c.args.sample_bytes 0 (take i columns)
    c.loop-column.places.items c.loop-column.own.items c.loop-column.invariant.0
    ∙ ap length (take_all i columns (omega arith))
