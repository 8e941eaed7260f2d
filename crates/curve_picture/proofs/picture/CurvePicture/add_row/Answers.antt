use Rattle.std.proofs.Common.{◌≡◌, ◌+◌, List, [], ◌∷◌, ◌++◌, ap, length, length-append, map, refl, sym, ◌∙◌}
use Rattle.std.proofs.lemmas.List.{length-map}
use Rattle.curve_picture.specs.declared.row.Row.{Row}
use Rattle.curve_picture.specs.declared.caption.Caption.{Caption}
use Rattle.curve_picture.specs.Shown.{Gathered, name_of}
use Rattle.curve_picture.proofs.GatheredLemmas.{one_row_more}
use Rattle.curve_picture.proofs.picture.CurvePicture.add_row.Goals as goal

-- one name more
longer : (old new : List Caption) (words : Caption) → new ≡ old ++ words ∷ [] → length (map name_of new) ≡ length (map name_of old) + 1
longer old new words is =
    length-map new name_of ∙ ap length is ∙ length-append old (words ∷ []) ∙ sym (ap (λ n. n + 1) (length-map old name_of))

-- the row more has no value yet
pub returns-clause-stands : goal.returns-clause-stands
returns-clause-stands c = λ given h.
    let p : Gathered =
    record {
      rows = c.self.inside.rows.items;
      names = map name_of c.self.inside.captions.items;
      width = c.self.inside.grid.width;
      first = c.self.inside.grid.first;
      last = c.self.inside.grid.last;
    } in
    let q : Gathered =
    record {
      rows = c.push.new.self.items;
      names = map name_of c.push_reserved.new.self.items;
      width = c.self.inside.grid.width;
      first = c.self.inside.grid.first;
      last = c.self.inside.grid.last;
    } in
    let words : c.push_reserved.new.self.items ≡ c.self.inside.captions.items ++ c.in_ok-caption.caption ∷ [] =
    c.push_reserved.ensures.items ∙ ap (λ (xs : List Caption). xs ++ c.in_ok-caption.caption ∷ []) c.reserve.ensures.items in
    one_row_more p q given
    (longer c.self.inside.captions.items c.push_reserved.new.self.items c.in_ok-caption.caption words)
    (c.in_ok-push.ensures.items ∙ ap (λ (r : Row). c.self.inside.rows.items ++ r ∷ []) c.new-2.ensures)
    refl refl refl (rw c.self.view_is h)
