use Rattle.std.proofs.Common.{◌≡◌, ◌∙◌, ap, lit<, rules, sym, tests}
use Rattle.std.specs.Prelude.{bytes_eq}
use Rattle.std.specs.List.{list_any}
use Rattle.std.specs.Option.{option_copied}
use Rattle.std.proofs.lemmas.Iterator.Search.{any_from_yields_List}
use Rattle.std.proofs.lemmas.Iterator.Splits.{YieldsList-from_str_split}
use Rattle.value_tables.specs.Columns.{is_chosen, names_in}
use Rattle.value_tables.proofs.columns.is_chosen.Goals as goal

-- the words are compared one after another
pub returns-in-Some : goal.returns-in-Some
returns-in-Some c =
    let name = c.args.name.now in
    let text = c.in-Some.only.now in
    let cut = c.split.ensures in
    let among : c.any.result ≡ list_any (λ w. bytes_eq w name) (names_in text) =
    any_from_yields_List (λ w. bytes_eq w name) _ _ _ c.any.ensures.ran
    (YieldsList-from_str_split 44 text (lit< tt) cut.text cut.has_more cut.pattern)
    (λ x b q k. search (rules, tests)) in
    among ∙ sym (ap (λ o. is_chosen (option_copied o) name) c.in-Some.is)
