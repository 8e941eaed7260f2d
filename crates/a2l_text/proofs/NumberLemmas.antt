-- Digits and their value, one more at a time.
use Rattle.std.proofs.Common.{◌≡◌, ℕ, zero, suc, ◌+◌, ◌*◌, ◌<◌, ◌≤◌, List, [], ◌∷◌, ◌++◌, length, take, get_or, ap, ◌∙◌, subst, sym, arith}
use Rattle.std.specs.Char.{digit_value}
use Rattle.std.specs.Str.Parse.{AllDigits, digits_value}
use Rattle.std.proofs.lemmas.List.{take_more}
use Rattle.std.proofs.lemmas.Int.Digits.{digits_value_push}
use Rattle.std.proofs.lemmas.Str.Parse.{digits_value-take-le}

digits_push : (radix : ℕ) (ds : List ℕ) (c : ℕ) → AllDigits radix ds → digit_value c < radix → AllDigits radix (ds ++ c ∷ [])
digits_push radix [] c h d = (d, tt)
digits_push radix (x ∷ ds) c h d = (h.0, digits_push radix ds c h.1 d)

pub digits_more : (radix : ℕ) (ds : List ℕ) (i c : ℕ) → i < length ds → c ≡ get_or ds i 0 → AllDigits radix (take i ds) → digit_value c < radix
    → AllDigits radix (take (i + 1) ds)
digits_more radix ds i c within e h d =
    let more : take i ds ++ c ∷ [] ≡ take (i + 1) ds =
    ap (λ (x : ℕ). take i ds ++ x ∷ []) e ∙ sym (take_more ds i 0 within) in
    subst (AllDigits radix) more (digits_push radix (take i ds) c h d)

pub value_more : (radix : ℕ) (ds : List ℕ) (i c : ℕ) → i < length ds → c ≡ get_or ds i 0
    → digits_value radix (take (i + 1) ds) ≡ digits_value radix (take i ds) * radix + digit_value c
value_more radix ds i c within e =
    let more : take (i + 1) ds ≡ take i ds ++ c ∷ [] =
    take_more ds i 0 within ∙ ap (λ (x : ℕ). take i ds ++ x ∷ []) (sym e) in
    ap (digits_value radix) more ∙ digits_value_push radix (take i ds) c

-- each byte of digits is one
pub digit_at : (radix : ℕ) (ds : List ℕ) (i c : ℕ) → i < length ds → c ≡ get_or ds i 0 → AllDigits radix ds → digit_value c < radix
digit_at radix [] i c within e h = absurd (omega arith)
digit_at radix (x ∷ ds) zero c within e h = subst (λ b. digit_value b < radix) (sym e) h.0
digit_at radix (x ∷ ds) (suc i) c within e h = digit_at radix ds i c (omega arith) e h.1

-- what is too large with the digits so far is too large with all
pub too_large : (radix : ℕ) (ds : List ℕ) (i c top : ℕ) → 1 ≤ radix → i < length ds → c ≡ get_or ds i 0
    → (digits_value radix (take i ds) * radix + digit_value c < top → ⊥) → digits_value radix ds < top → ⊥
too_large radix ds i c top some within e over h =
    let front = digits_value-take-le radix ds (i + 1) some in
    over (omega (arith, front, value_more radix ds i c within e, h))
