-- The columns of measurements, one after another.
use Rattle.std.proofs.Common.{◌≡◌, ℕ, suc, ◌+◌, Bool, true, false, List, [], ◌∷◌, ◌++◌, take}
use Rattle.std.proofs.Common.{slice_get, Some, refl, sym, ap, subst, ◌∙◌, add-one, append-nil}
use Rattle.std.specs.Prelude.{filter, if◌then◌else◌}
use Rattle.std.specs.List.{AllZip}
use Rattle.a2l.specs.declared.description.Description.{Description}
use Rattle.a2l.specs.declared.description.Measurement.{Measurement}
use Rattle.value_tables.specs.Columns.{IsColumnOf}
use Rattle.value_tables.specs.declared.column.Column.{Column}
use Rattle.value_tables.proofs.CellLemmas.{all_zip-push, take-more}

-- one element more
kept_first : {X : Type 0} (b : Bool) (x : X) (xs ys zs : List X)
    → ys ≡ xs ++ zs → (if b then x ∷ ys else ys) ≡ (if b then x ∷ xs else xs) ++ zs
kept_first true x xs ys zs h = ap (λ t. x ∷ t) h
kept_first false x xs ys zs h = h

kept_last : {X : Type 0} (b : Bool) (x : X)
    → (if b then x ∷ [] else []) ≡ [] ++ (if b then x ∷ [] else [])
kept_last true x = refl
kept_last false x = refl

filter-push : {X : Type 0} (p : X → Bool) (xs : List X) (x : X)
    → filter p (xs ++ x ∷ []) ≡ filter p xs ++ (if p x then x ∷ [] else [])
filter-push p [] x = kept_last (p x) x
filter-push p (y ∷ xs) x =
    kept_first (p y) y (filter p xs) (filter p (xs ++ x ∷ [])) _ (filter-push p xs x)

-- the measurement at a place passes the test
pub column_more :
    (d : Description) (p : Measurement → Bool) (i : ℕ) (m : Measurement) (columns : List Column)
    (column : Column)
    → slice_get d.measurements.items i ≡ Some m → p m ≡ true → IsColumnOf d m column
    → AllZip (IsColumnOf d) (filter p (take i d.measurements.items)) columns
    → AllZip (IsColumnOf d) (filter p (take (i + 1) d.measurements.items)) (columns ++ column ∷ [])
column_more d p i m columns column at shown is all =
    let ms = d.measurements.items in
    let front = filter p (take i ms) in
    let more : filter p (take (suc i) ms) ≡ front ++ m ∷ [] =
    ap (filter p) (take-more ms i m at) ∙ filter-push p (take i ms) m
    ∙ ap (λ (b : Bool). front ++ (if b then m ∷ [] else [])) shown in
    rw add-one (subst (λ fs. AllZip (IsColumnOf d) fs (columns ++ column ∷ [])) (sym more)
    (all_zip-push (IsColumnOf d) front columns m column all is))

-- it doesn't
pub column_not :
    (d : Description) (p : Measurement → Bool) (i : ℕ) (m : Measurement) (columns : List Column)
    → slice_get d.measurements.items i ≡ Some m → p m ≡ false
    → AllZip (IsColumnOf d) (filter p (take i d.measurements.items)) columns
    → AllZip (IsColumnOf d) (filter p (take (i + 1) d.measurements.items)) columns
column_not d p i m columns at out all =
    let ms = d.measurements.items in
    let front = filter p (take i ms) in
    let more : filter p (take (suc i) ms) ≡ front =
    ap (filter p) (take-more ms i m at) ∙ filter-push p (take i ms) m
    ∙ ap (λ (b : Bool). front ++ (if b then m ∷ [] else [])) out ∙ append-nil front in
    rw add-one (subst (λ fs. AllZip (IsColumnOf d) fs columns) (sym more) all)
