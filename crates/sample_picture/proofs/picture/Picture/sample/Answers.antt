use Rattle.std.proofs.Common.{◌≡◌, ◌<◌, ◌++◌, List, Some, ap, arith, drop, get_or, length, map, refl, set, subst, sym, take, ◌∙◌}
use Rattle.std.specs.Prelude.{slice_get}
use Rattle.std.proofs.lemmas.Grind.{common_steps}
use Rattle.std.proofs.lemmas.Option.{slice_get_read}
use Rattle.sample_picture.specs.declared.row.Row.{Row}
use Rattle.sample_picture.specs.Shown.{Gathered}
use Rattle.sample_picture.specs.Inner.{name_of, noted}
use Rattle.sample_picture.proofs.RowsLemmas.{noted_stands, names_of_noted}
use Rattle.sample_picture.proofs.picture.Picture.sample.Goals as goal

-- the row is noted, and no row has another name
pub returns-clause-names : goal.returns-clause-names
returns-clause-names c =
    let old : List Row = c.self.inside.rows.items in
    let new : List Row = c.reach-self-inside.new.rows in
    let row : Row = c.index_mut.result.now in
    let items : take c.self.inside.rows.len (new ++ drop (length new) old) ≡ new = grind (arith, common_steps) in
    let inside : c.args.row < length new = grind (arith, common_steps) in
    let there : slice_get new c.args.row ≡ Some row =
    slice_get_read new (length new) c.args.row row refl inside (c.index_mut.ensures.value ∙ ap (λ (xs : List Row). get_or xs c.args.row row) items) in
    rw c.note.ensures
    (ap (λ (xs : List Row). map name_of (set xs c.args.row (noted row c.slot-slot.result c.args.at c.args.overload))) items
    ∙ names_of_noted new c.args.row row c.slot-slot.result c.args.at c.args.overload there
    ∙ c.reach-self-inside.ensures.names
    ∙ ap (map name_of) c.deref_mut.ensures.value
    ∙ ap (λ (p : Gathered). map name_of p.rows) c.self.view_is)

-- the sample is where its bin is, and those before are where they were
pub returns-clause-stands : goal.returns-clause-stands
returns-clause-stands c = λ real given h.
    let old : List Row = c.self.inside.rows.items in
    let new : List Row = c.reach-self-inside.new.rows in
    let row : Row = c.index_mut.result.now in
    let grid = c.reach-self-inside.result in
    let items : take c.self.inside.rows.len (new ++ drop (length new) old) ≡ new = grind (arith, common_steps) in
    let inside : c.args.row < length new = grind (arith, common_steps) in
    let there : slice_get new c.args.row ≡ Some row =
    slice_get_read new (length new) c.args.row row refl inside (c.index_mut.ensures.value ∙ ap (λ (xs : List Row). get_or xs c.args.row row) items) in
    let before : Gathered =
    record {
      rows = old;
      width = c.self.inside.grid.width;
      first = c.self.inside.grid.first;
      last = c.self.inside.grid.last;
    } in
    let after : Gathered =
    record {
      rows = set (take c.self.inside.rows.len (new ++ drop (length new) old)) c.args.row c.note.new.self;
      width = grid.width;
      first = grid.first;
      last = grid.last;
    } in
    noted_stands before after new c.args.row c.slot-slot.result c.args.at c.args.overload row given
    (subst (λ (p : Gathered). c.args.row < length p.rows) (sym c.self.view_is) real)
    (rw c.self.view_is h)
    c.reach-self-inside.ensures.first
    c.reach-self-inside.ensures.last
    grid.positive
    grid.near
    grid.fine
    (λ in_range stood. c.reach-self-inside.ensures.rows given in_range (rw c.deref_mut.ensures.value stood))
    (c.reach-self-inside.ensures.names ∙ ap (map name_of) c.deref_mut.ensures.value)
    c.slot-slot.ensures
    there
    (ap (λ (xs : List Row). set xs c.args.row c.note.new.self) items ∙ ap (set new c.args.row) c.note.ensures)
