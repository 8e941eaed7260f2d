use Rattle.std.proofs.Common.{refl}
use Rattle.std.proofs.lemmas.Result.{err_from_is_err_and}
use Rattle.a2l_entries.specs.MethodSaid.{coefficients_said}
use Rattle.a2l_entries.proofs.ScanLemmas.{stops_along}
use Rattle.a2l_entries.proofs.method_options.coefficients_in.Goals as goal

-- the words stop at the first part that they lack
pub returns-in_err-a : goal.returns-in_err-a
unfolding coefficients_said
returns-in_err-a c =
    let p = err_from_is_err_and c.from_residual.result c.from_residual.ensures.1 in
    rw (p.1, p.2) (stops_along _ _ _ (λ none. rw none refl) c.in_err-a.ensures)

pub returns-in_err-b : goal.returns-in_err-b
unfolding coefficients_said
returns-in_err-b c =
    let p = err_from_is_err_and c.from_residual-in_err-b.result c.from_residual-in_err-b.ensures.1 in
    rw (p.1, p.2, c.in_ok-a.ensures) (stops_along _ _ _ (λ none. rw none refl) c.in_err-b.ensures)

pub returns-in_err-c : goal.returns-in_err-c
unfolding coefficients_said
returns-in_err-c c =
    let p = err_from_is_err_and c.from_residual-in_err-c.result c.from_residual-in_err-c.ensures.1 in
    rw (p.1, p.2, c.in_ok-a.ensures, c.in_ok-b.ensures) (stops_along _ _ _ (λ none. rw none refl) c.in_err-c.ensures)

pub returns-in_err-d : goal.returns-in_err-d
unfolding coefficients_said
returns-in_err-d c =
    let p = err_from_is_err_and c.from_residual-in_err-d.result c.from_residual-in_err-d.ensures.1 in
    rw (p.1, p.2, c.in_ok-a.ensures, c.in_ok-b.ensures, c.in_ok-c.ensures) (stops_along _ _ _ (λ none. rw none refl) c.in_err-d.ensures)

pub returns-in_err-e : goal.returns-in_err-e
unfolding coefficients_said
returns-in_err-e c =
    let p = err_from_is_err_and c.from_residual-in_err-e.result c.from_residual-in_err-e.ensures.1 in
    rw (p.1, p.2, c.in_ok-a.ensures, c.in_ok-b.ensures, c.in_ok-c.ensures, c.in_ok-d.ensures) (stops_along _ _ _ (λ none. rw none refl) c.in_err-e.ensures)

pub returns-in_err-f : goal.returns-in_err-f
unfolding coefficients_said
returns-in_err-f c =
    let p = err_from_is_err_and c.from_residual-in_err-f.result c.from_residual-in_err-f.ensures.1 in
    rw (p.1, p.2, c.in_ok-a.ensures, c.in_ok-b.ensures, c.in_ok-c.ensures, c.in_ok-d.ensures, c.in_ok-e.ensures) (stops_along _ _ _ (λ none. rw none refl) c.in_err-f.ensures)

-- each number is one of the words
pub returns : goal.returns
unfolding coefficients_said
returns c = rw (c.in_ok-a.ensures, c.in_ok-b.ensures, c.in_ok-c.ensures, c.in_ok-d.ensures, c.in_ok-e.ensures, c.in_ok-f.ensures) refl
