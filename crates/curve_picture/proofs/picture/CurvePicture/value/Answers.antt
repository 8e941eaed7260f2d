use Rattle.std.proofs.Common.{◌≡◌, ◌<◌, ◌++◌, List, Some, ap, drop, get_or, length, map, refl, set, subst, sym, take, ◌∙◌, arith}
use Rattle.std.specs.Prelude.{slice_get}
use Rattle.std.proofs.lemmas.Grind.{common_steps}
use Rattle.std.proofs.lemmas.Option.{slice_get_read}
use Rattle.curve_picture.specs.declared.point.Point.{Point}
use Rattle.curve_picture.specs.declared.row.Row.{Row}
use Rattle.curve_picture.specs.Shown.{Gathered, name_of}
use Rattle.curve_picture.proofs.GatheredLemmas.{one_value_more}
use Rattle.curve_picture.proofs.picture.CurvePicture.value.Goals as goal

-- the value is where its bin is, and those before are where they were
pub returns-clause-stands : goal.returns-clause-stands
returns-clause-stands c = λ real given h.
    let old : List Row = c.self.inside.rows.items in
    let new : List Row = c.reach-self-inside.new.rows in
    let row : Row = c.index_mut.result.now in
    let grid = c.reach-self-inside.result in
    let place : Point = record { at = c.args.at; value = c.args.value } in
    let items : take c.self.inside.rows.len (new ++ drop (length new) old) ≡ new = grind (arith, common_steps) in
    let inside : c.args.row < length new = grind (arith, common_steps) in
    let there : slice_get new c.args.row ≡ Some row =
    slice_get_read new (length new) c.args.row row refl inside (c.index_mut.ensures.value ∙ ap (λ (xs : List Row). get_or xs c.args.row row) items) in
    let before : Gathered =
    record {
      rows = old;
      names = map name_of c.self.inside.captions.items;
      width = c.self.inside.grid.width;
      first = c.self.inside.grid.first;
      last = c.self.inside.grid.last;
    } in
    let after : Gathered =
    record {
      rows = set (take c.self.inside.rows.len (new ++ drop (length new) old)) c.args.row c.note.new.self;
      names = map name_of c.self.inside.captions.items;
      width = grid.width;
      first = grid.first;
      last = grid.last;
    } in
    let long : length new ≡ length old = grind (arith, common_steps) in
    one_value_more before after new c.args.row c.slot-slot.result place c.args.lost row given
    (subst (λ (p : Gathered). c.args.row < length p.rows) (sym c.self.view_is) real)
    (rw c.self.view_is h)
    refl
    c.reach-self-inside.ensures.first
    c.reach-self-inside.ensures.last
    grid.positive
    grid.near
    grid.fine
    long
    (λ in_range stood. c.reach-self-inside.ensures.rows given in_range (rw c.deref_mut.ensures.value stood))
    c.slot-slot.ensures
    there
    (ap (λ (xs : List Row). set xs c.args.row c.note.new.self) items ∙ ap (set new c.args.row) c.note.ensures)
