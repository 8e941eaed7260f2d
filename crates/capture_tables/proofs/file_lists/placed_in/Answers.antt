use Rattle.std.proofs.Common.{◌≡◌, ◌++◌, ◌∷◌, [], ◌+◌, ◌∙◌, List, ap, arith, subst, sym, take}
use Rattle.std.proofs.lemmas.List.{take_more}
use Rattle.value_tables.specs.declared.column.Column.{Column}
use Rattle.capture_tables.proofs.FileListLemmas.{placed_more}
use Rattle.capture_tables.specs.FileLists.{ArePlacedIn}
use Rattle.capture_tables.proofs.file_lists.placed_in.Goals as goal

-- one column more
pub loop-column-preserved : goal.loop-column-preserved
loop-column-preserved c =
    let list = c.args.list.now in
    let columns = c.args.columns.now in
    let i = c.loop-column.column-index in
    let item = c.column-item.result in
    let more : take (i + 1) columns ≡ take i columns ++ item ∷ [] =
    take_more columns i item (omega arith)
    ∙ ap (λ (x : Column). take i columns ++ x ∷ []) (sym c.column-item.is) in
    subst (λ (cs : List Column). ArePlacedIn list cs c.add_placed.new.placed.items) (sym more)
    (placed_more list (take i columns) c.loop-column.placed.items c.add_placed.new.placed.items
    item c.loop-column.invariant c.in_ok-add_placed.ensures)
