use Rattle.std.proofs.Common.{refl}
use Rattle.std.proofs.lemmas.Result.{err_from_is_err_and}
use Rattle.a2l_entries.specs.MeasurementSaid.{measurement_said}
use Rattle.a2l_entries.proofs.ScanLemmas.{stops_along}
use Rattle.a2l_entries.proofs.measurement_block.measurement_of.Goals as goal

-- the words stop at the first part that they lack
pub returns-in_err-name : goal.returns-in_err-name
unfolding measurement_said
returns-in_err-name c =
    let p = err_from_is_err_and c.from_residual.result c.from_residual.ensures.1 in
    rw (p.1, p.2) (stops_along _ _ _ (λ none. rw none refl) c.in_err-name.ensures)

pub returns-in_err-identifier : goal.returns-in_err-identifier
unfolding measurement_said
returns-in_err-identifier c =
    let p = err_from_is_err_and c.from_residual-in_err-identifier.result c.from_residual-in_err-identifier.ensures.1 in
    rw (p.1, p.2, c.in_ok-name.ensures) (stops_along _ _ _ (λ none. rw none refl) c.in_err-identifier.ensures)

pub returns-in_err-word : goal.returns-in_err-word
unfolding measurement_said
returns-in_err-word c =
    let p = err_from_is_err_and c.from_residual-in_err-word.result c.from_residual-in_err-word.ensures.1 in
    rw (p.1, p.2, c.in_ok-name.ensures, c.in_ok-identifier.ensures) (stops_along _ _ _ (λ none. rw none refl) c.in_err-word.ensures)

pub returns-in_err-data_type : goal.returns-in_err-data_type
unfolding measurement_said
returns-in_err-data_type c =
    let p = err_from_is_err_and c.from_residual-in_err-data_type.result c.from_residual-in_err-data_type.ensures.1 in
    rw (p.1, p.2, c.in_ok-name.ensures, c.in_ok-identifier.ensures, c.in_ok-word.ensures) (stops_along _ _ _ (λ none. rw none refl) c.in_err-data_type.ensures)

pub returns-in_err-method : goal.returns-in_err-method
unfolding measurement_said
returns-in_err-method c =
    let p = err_from_is_err_and c.from_residual-in_err-method.result c.from_residual-in_err-method.ensures.1 in
    rw (p.1, p.2, c.in_ok-name.ensures, c.in_ok-identifier.ensures, c.in_ok-word.ensures, c.in_ok-data_type.ensures) (stops_along _ _ _ (λ none. rw none refl) c.in_err-method.ensures)

pub returns-in_err-limits : goal.returns-in_err-limits
unfolding measurement_said
returns-in_err-limits c =
    let p = err_from_is_err_and c.from_residual-in_err-limits.result c.from_residual-in_err-limits.ensures.1 in
    rw (p.1, p.2, c.in_ok-name.ensures, c.in_ok-identifier.ensures, c.in_ok-word.ensures, c.in_ok-data_type.ensures, c.in_ok-method.ensures) (stops_along _ _ _ (λ none. rw none refl) c.in_err-limits.ensures)

pub returns-in_err-options : goal.returns-in_err-options
unfolding measurement_said
returns-in_err-options c =
    let p = err_from_is_err_and c.from_residual-in_err-options.result c.from_residual-in_err-options.ensures.1 in
    rw (p.1, p.2, c.in_ok-name.ensures, c.in_ok-identifier.ensures, c.in_ok-word.ensures, c.in_ok-data_type.ensures, c.in_ok-method.ensures, c.in_ok-limits.ensures) (stops_along _ _ _ (λ none. rw none refl) c.in_err-options.ensures)

-- each part stands behind the one before
pub returns : goal.returns
unfolding measurement_said
returns c = rw (c.in_ok-name.ensures, c.in_ok-identifier.ensures, c.in_ok-word.ensures, c.in_ok-data_type.ensures, c.in_ok-method.ensures, c.in_ok-limits.ensures, c.in_ok-options.ensures) refl
