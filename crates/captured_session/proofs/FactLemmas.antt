-- The facts of writes.
use Rattle.std.proofs.Common.{◌≡◌, ℕ, ◌+◌, ◌++◌, ◌∷◌, [], arith, Option}
use Rattle.std.proofs.lemmas.List.FromFn.{map-range_with_len_more}
use Rattle.captured_session.specs.SetUps.{moved, write_at, writes_from}
use Rattle.captured_session.specs.declared.element.Element.{Element}
use Rattle.captured_session.specs.declared.pointer.Pointer.{Pointer}

-- one more
pub writes-more : (p : Pointer) (n : ℕ) (element : ℕ → Option Element)
    → writes_from p (n + 1) element ≡ writes_from p n element ++ write_at (moved n p) (element n) ∷ []
writes-more p n element = map-range_with_len_more (λ i. write_at (moved i p) (element i)) 0 n n (omega arith)
