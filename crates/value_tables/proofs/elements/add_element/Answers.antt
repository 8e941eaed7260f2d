use Rattle.std.proofs.Common.{◌≡◌, ◌∙◌, ◌++◌, ◌∷◌, [], Some, List, ap, map, rules, sym}
use Rattle.std.proofs.lemmas.List.{map_push}
use Rattle.a2l.specs.Elements.{element_address}
use Rattle.a2l.specs.Resolved.{Value, described_measurement}
use Rattle.value_tables.proofs.ElementLemmas.{element_there}
use Rattle.value_tables.proofs.elements.add_element.Goals as goal

-- the element has an address, its bytes are there, and it was appended
pub returns : goal.returns
returns g c =
    let v = described_measurement c.args.array.now in
    let before = c.args.parts.now.items in
    let at : element_address v c.args.index ≡ Some c.in-Some.address = search rules in
    let there = element_there (g.H.Holder.held c.args.holder.now) v c.args.index c.in-Some.address _ at (search rules) in
    rw c.in_ok-push.ensures.items
    (map_push described_measurement before c.in_ok-element.element
    ∙ ap (λ (e : Value). map described_measurement before ++ e ∷ []) c.in_ok-element.ensures
    ∙ ap (λ (es : List Value). map described_measurement before ++ es) (sym there))
