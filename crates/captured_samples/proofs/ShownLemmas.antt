-- What packets show, with one more.
use Rattle.std.proofs.Common.{◌≡◌, ℕ, ◌+◌, ◌++◌, ◌∷◌, [], List, length, refl, sym, ap, ◌∙◌, arith, Bool, true, false, Option}
use Rattle.std.proofs.Common.{◌||◌}
use Rattle.std.proofs.lemmas.List.{append_assoc, append-nil, length-append}
use Rattle.std.proofs.lemmas.List.Folds.{list_any-append}
use Rattle.std.specs.List.{list_any}
use Rattle.captured_session.specs.Lists.{ListOf}
use Rattle.captured_samples.specs.Inner.{ticks_with, with_packet}
use Rattle.captured_samples.specs.Places.{body_of, has_overload}
use Rattle.captured_samples.specs.Samples.{ShownOf, bytes_from, shown_of, ticks_in, ticks_of}

bytes-behind : (l : ListOf) (k : ℕ) (before : List (List ℕ)) (p : List ℕ)
    → bytes_from l k (before ++ p ∷ []) ≡ bytes_from l k before ++ body_of l (k + length before) p
bytes-behind l k [] p =
    append-nil (body_of l k p) ∙ ap (λ n. body_of l n p) (omega arith)
bytes-behind l k (q ∷ before) p =
    ap (λ bytes. body_of l k q ++ bytes) (bytes-behind l (k + 1) before p)
    ∙ sym (append_assoc (body_of l k q) (bytes_from l (k + 1) before) (body_of l (k + 1 + length before) p))
    ∙ ap (λ n. body_of l k q ++ bytes_from l (k + 1) before ++ body_of l n p) (omega arith)

ticks-behind : (l : ListOf) (before : List (List ℕ)) (p : List ℕ)
    → ticks_with (length before) (ticks_in l p) (ticks_of l before) ≡ ticks_of l (before ++ p ∷ [])
ticks-behind l [] p = refl
ticks-behind l (q ∷ before) p = refl

or-false : (a b : Bool) → (a || (b || false)) ≡ (a || b)
or-false true b = refl
or-false false true = refl
or-false false false = refl

any-behind : (l : ListOf) (before : List (List ℕ)) (p : List ℕ)
    → (list_any (has_overload l) before || has_overload l p) ≡ list_any (has_overload l) (before ++ p ∷ [])
any-behind l before p =
    sym (list_any-append (has_overload l) before (p ∷ []) ∙ or-false (list_any (has_overload l) before) (has_overload l p))

shown-same : (l : ListOf) (n m : ℕ) (a b : Bool) (s t : Option ℕ) (xs ys : List ℕ) → n ≡ m → a ≡ b → s ≡ t → xs ≡ ys
    → ◌≡◌ {A = ShownOf} (record { list = l; packets = n; overload = a; ticks = s; bytes = xs }) (record { list = l; packets = m; overload = b; ticks = t; bytes = ys })
shown-same l n m a b s t xs ys c d e f = cc

pub shown-behind : (l : ListOf) (before : List (List ℕ)) (p : List ℕ)
    → with_packet (shown_of l before) p ≡ shown_of l (before ++ p ∷ [])
shown-behind l before p =
    let count : length before + 1 ≡ length (before ++ p ∷ []) = sym (length-append before (p ∷ [])) in
    shown-same l _ _ _ _ _ _ _ _ count (any-behind l before p) (ticks-behind l before p)
    (sym (bytes-behind l 0 before p ∙ ap (λ n. bytes_from l 0 before ++ body_of l n p) (omega arith)))
