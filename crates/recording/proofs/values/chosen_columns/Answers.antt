use Rattle.std.proofs.Common.{◌≡◌, length, rules, tests}
use Rattle.recording.proofs.ByNameLemmas.{none_of}
use Rattle.recording.proofs.values.chosen_columns.Goals as goal

-- there is a column for each measurement that is shown
pub returns-then-is_empty-clause-no_value : goal.returns-then-is_empty-clause-no_value
returns-then-is_empty-clause-no_value g c err has =
    let none : length c.in_ok-columns.columns.items ≡ 0 =
    search (rules, tests) in
    has.1 (none_of _ _ _ c.in_ok-columns.ensures.all none)
