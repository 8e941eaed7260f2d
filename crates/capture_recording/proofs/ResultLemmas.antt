-- Facts of results.
use Rattle.std.proofs.Common.{◌≡◌, IfOk, IfErr, IsErrAnd, OnOk, Result, Ok, Err, subst, sym}

pub if-ok-both : {T E : Type 0} (r : Result T E) (P Q : T → Type 0) → IfOk r P → IfOk r Q → IfOk r (λ x. P x × Q x)
if-ok-both (Ok x) P Q p q = (p, q)
if-ok-both (Err e) P Q p q = p

-- what follows from two facts of a result
pub on-ok-by : {T E P Q R : Type 0} (r : Result T E) → (P → Q → R) → OnOk r P → OnOk r Q → OnOk r R
on-ok-by (Ok x) f p q = f p q
on-ok-by (Err e) f p q = tt

-- an error that `?` hands on
pub handed-on : {T E : Type 0} (r : Result T E) (P : E → Type 0) (e : E) → IsErrAnd r (λ x. x ≡ e) → P e → IfErr r P
handed-on (Ok x) P e is p = tt
handed-on (Err x) P e is p = subst P (sym is) p
