use Rattle.std.proofs.Common.{◌≡◌, ◌∙◌, Some, ap, slice_get, sym}
use Rattle.std.proofs.lemmas.Option.{slice_get-get_or}
use Rattle.sample_tables.proofs.SpotLemmas.{is_number, numbers_more}
use Rattle.sample_tables.proofs.spots.next_number.Goals as goal

-- the number is how many came before
pub returns-clause-number : goal.returns-clause-number
returns-clause-number c = λ earlier all.
    let numbers = c.args.numbers.now.items in
    let number = c.index-number.result.now in
    let at : slice_get numbers c.args.place ≡ Some number = slice_get-get_or numbers c.args.place number c.requires ∙ ap Some (sym c.index-number.ensures) in
    is_number numbers c.args.place number earlier all c.requires at

-- and one more came
pub returns-clause-numbers : goal.returns-clause-numbers
returns-clause-numbers c = λ earlier r all.
    let numbers = c.args.numbers.now.items in
    let number = c.index-number.result.now in
    let at : slice_get numbers c.args.place ≡ Some number = slice_get-get_or numbers c.args.place number c.requires ∙ ap Some (sym c.index-number.ensures) in
    numbers_more numbers c.args.place number earlier r all c.requires at
