use Rattle.std.proofs.Common.{refl}
use Rattle.std.proofs.lemmas.Result.{err_from_is_err_and}
use Rattle.a2l_entries.specs.MethodSaid.{method_said}
use Rattle.a2l_entries.proofs.ScanLemmas.{stops_along}
use Rattle.a2l_entries.proofs.method_block.method_of.Goals as goal

-- the words stop at the first part that they lack
pub returns-in_err-name : goal.returns-in_err-name
unfolding method_said
returns-in_err-name c =
    let p = err_from_is_err_and c.from_residual.result c.from_residual.ensures.1 in
    rw (p.1, p.2) (stops_along _ _ _ (λ none. rw none refl) c.in_err-name.ensures)

pub returns-in_err-left : goal.returns-in_err-left
unfolding method_said
returns-in_err-left c =
    let p = err_from_is_err_and c.from_residual-in_err-left.result c.from_residual-in_err-left.ensures.1 in
    rw (p.1, p.2, c.in_ok-name.ensures) (stops_along _ _ _ (λ none. rw none refl) c.in_err-left.ensures)

pub returns-in_err-word : goal.returns-in_err-word
unfolding method_said
returns-in_err-word c =
    let p = err_from_is_err_and c.from_residual-in_err-word.result c.from_residual-in_err-word.ensures.1 in
    rw (p.1, p.2, c.in_ok-name.ensures, c.in_ok-left.ensures) (stops_along _ _ _ (λ none. rw none refl) c.in_err-word.ensures)

pub returns-in_err-kind : goal.returns-in_err-kind
unfolding method_said
returns-in_err-kind c =
    let p = err_from_is_err_and c.from_residual-in_err-kind.result c.from_residual-in_err-kind.ensures.1 in
    rw (p.1, p.2, c.in_ok-name.ensures, c.in_ok-left.ensures, c.in_ok-word.ensures) (stops_along _ _ _ (λ none. rw none refl) c.in_err-kind.ensures)

pub returns-in_err-left-2 : goal.returns-in_err-left-2
unfolding method_said
returns-in_err-left-2 c =
    let p = err_from_is_err_and c.from_residual-in_err-left-2.result c.from_residual-in_err-left-2.ensures.1 in
    rw (p.1, p.2, c.in_ok-name.ensures, c.in_ok-left.ensures, c.in_ok-word.ensures, c.in_ok-kind.ensures) (stops_along _ _ _ (λ none. rw none refl) c.in_err-left-2.ensures)

pub returns-in_err-unit : goal.returns-in_err-unit
unfolding method_said
returns-in_err-unit c =
    let p = err_from_is_err_and c.from_residual-in_err-unit.result c.from_residual-in_err-unit.ensures.1 in
    rw (p.1, p.2, c.in_ok-name.ensures, c.in_ok-left.ensures, c.in_ok-word.ensures, c.in_ok-kind.ensures, c.in_ok-left-2.ensures) (stops_along _ _ _ (λ none. rw none refl) c.in_err-unit.ensures)

pub returns-in_err-options : goal.returns-in_err-options
unfolding method_said
returns-in_err-options c =
    let p = err_from_is_err_and c.from_residual-in_err-options.result c.from_residual-in_err-options.ensures.1 in
    rw (p.1, p.2, c.in_ok-name.ensures, c.in_ok-left.ensures, c.in_ok-word.ensures, c.in_ok-kind.ensures, c.in_ok-left-2.ensures, c.in_ok-unit.ensures) (stops_along _ _ _ (λ none. rw none refl) c.in_err-options.ensures)

pub returns-in_err-rule : goal.returns-in_err-rule
unfolding method_said
returns-in_err-rule c =
    let p = err_from_is_err_and c.from_residual-in_err-rule.result c.from_residual-in_err-rule.ensures.1 in
    rw (p.1, p.2, c.in_ok-name.ensures, c.in_ok-left.ensures, c.in_ok-word.ensures, c.in_ok-kind.ensures, c.in_ok-left-2.ensures, c.in_ok-unit.ensures, c.in_ok-options.ensures) (stops_along _ _ _ (λ none. rw none refl) c.in_err-rule.ensures)

-- each part stands behind the one before
pub returns : goal.returns
unfolding method_said
returns c = rw (c.in_ok-name.ensures, c.in_ok-left.ensures, c.in_ok-word.ensures, c.in_ok-kind.ensures, c.in_ok-left-2.ensures, c.in_ok-unit.ensures, c.in_ok-options.ensures, c.in_ok-rule.ensures) refl
