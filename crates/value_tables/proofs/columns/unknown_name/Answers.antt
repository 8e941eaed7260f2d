use Rattle.std.proofs.Common.{◌≡◌, ◌∙◌, ap, lit<, rules, sym, tests}
use Rattle.std.specs.Prelude.{not}
use Rattle.std.specs.List.{find}
use Rattle.std.specs.Option.{option_copied}
use Rattle.std.proofs.lemmas.Iterator.Search.{find_from_yields_List}
use Rattle.std.proofs.lemmas.Iterator.Splits.{YieldsList-from_str_split}
use Rattle.value_tables.specs.Columns.{is_known, names_in, unknown_in}
use Rattle.value_tables.proofs.columns.unknown_name.Goals as goal

-- the names are asked one after another
pub returns : goal.returns
returns g c =
    let d = c.args.description.now in
    let held = g.H.Holder.held c.args.holder.now in
    let text = c.in_ok-only.field-0.now in
    let cut = c.split-names.ensures in
    let first : option_copied c.find.result ≡ find (λ n. not (is_known d held n)) (names_in text) =
    find_from_yields_List (λ n. not (is_known d held n)) _ _ _ c.find.ensures.ran
    (YieldsList-from_str_split 44 text (lit< tt) cut.text cut.has_more cut.pattern)
    (λ x b q k. search (rules, tests)) in
    first ∙ sym (ap (λ o. unknown_in d held (option_copied o)) c.in_ok-only.was)
