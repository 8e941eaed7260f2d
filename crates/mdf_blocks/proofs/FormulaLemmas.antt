-- MDF's rules say what the conversions say.
use Rattle.std.proofs.Common.{◌≡◌, ℤ, pos, true, false, cond, List, [], ◌∷◌, ◌∙◌, refl, sym, ap}
use Rattle.std.proofs.Common.{Some, T, ⊎_elim, neg_ℤ}
use Rattle.std.specs.Prelude.{◌↔◌, ◌+ℤ◌, ◌*ℤ◌, ◌&&◌, find, option_and_then, slice_get}
use Rattle.std.specs.Float.{Float, ◌<ᶠ◌}
use Rattle.std.specs.Float.Ieee.{eq, le}
use Rattle.std.specs.List.{list_all}
use Rattle.std.proofs.lemmas.Float.{T_from_true, eq-not_lt, eq_flip, eq_trans, le_of_eq, lt-or-eq}
use Rattle.std.proofs.lemmas.Float.{lt_of_lt_of_le}
use Rattle.mdf_blocks.specs.Formulas.{IsLinearOf, IsRationalOf, SameFormulas}
use Rattle.mdf_blocks.specs.Rules.{AreKeys, is_key, linear_numbers, rational_numbers}
use Rattle.mdf_blocks.specs.TextPlaces.{is_within}
use Rattle.mdf_blocks.specs.declared.placed_text.PlacedText.{PlacedText}
use Rattle.mdf_blocks.proofs.PlaceLemmas.{and_true, false_of, left_of, not_T_false, right_of}
use Rattle.mdf_blocks.proofs.PlaceLemmas.{true_of}
use lib.IntN.{+ℤ-neg_ℤ_cancel, -ℤ-+ℤ_cancel, +ℤ_comm, +ℤ_idl, *ℤ_comm, zero-*ℤ}

same_linear : (factor offset raw physical : ℤ)
    → (physical ≡ ((factor *ℤ raw) +ℤ offset))
    ↔ (IsLinearOf (linear_numbers factor offset) raw physical)
same_linear factor offset raw physical =
    let turned = +ℤ_comm (factor *ℤ raw) offset in (λ h. h ∙ turned, λ h. h ∙ sym turned)

-- with zeros in front only the last is left
last_of_three : (a b d : ℤ) → ((pos 0 *ℤ a) +ℤ (pos 0 *ℤ b) +ℤ d) ≡ d
last_of_three a b d =
    ap (λ z. z +ℤ (pos 0 *ℤ b) +ℤ d) (zero-*ℤ a)
    ∙ ap (λ z. pos 0 +ℤ z +ℤ d) (zero-*ℤ b) ∙ +ℤ_idl d

last_of_two : (a b d : ℤ) → ((pos 0 *ℤ a) +ℤ b +ℤ d) ≡ (b +ℤ d)
last_of_two a b d = ap (λ z. z +ℤ b +ℤ d) (zero-*ℤ a) ∙ ap (λ z. z +ℤ d) (+ℤ_idl b)

same_rational : (b c f raw physical : ℤ)
    → ((f *ℤ raw) ≡ ((b *ℤ physical) +ℤ c))
    ↔ (IsRationalOf (rational_numbers (pos 0) neg_ℤ b c f) raw physical)
same_rational b c f raw physical =
    let below = ap (λ z. physical *ℤ z) (last_of_three (raw *ℤ raw) raw b) in
    let above = last_of_two (raw *ℤ raw) (f *ℤ raw) (neg_ℤ c) in
    let turned = *ℤ_comm physical b in (
      λ h. below ∙ turned
          ∙ sym (ap (λ z. z +ℤ neg_ℤ c) h ∙ +ℤ-neg_ℤ_cancel (b *ℤ physical) c)
          ∙ sym above,
      λ h. sym (-ℤ-+ℤ_cancel (f *ℤ raw) c)
          ∙ ap (λ z. z +ℤ c) (sym above ∙ sym h ∙ below ∙ turned),
    )

-- a number is in the range of one number if it is that
key_is : (a b x : Float) → eq a b ≡ true → (le a x && le x b) ≡ eq a x
key_is a b x key =
    let same : T (eq a b) = T_from_true (eq a b) key in
    elim (eq a x) as (λ v. eq a x ≡ v → (le a x && le x b) ≡ v) [
      | true ↦ λ e.
          let is : T (eq a x) = T_from_true (eq a x) e in
          and_true (le a x) (le x b) (true_of (le a x) (le_of_eq a x is))
          (true_of (le x b) (le_of_eq x b (eq_trans x a b (eq_flip a x is) same)))
      | false ↦ λ e.
          false_of (le a x && le x b) (λ h.
          let both : (le a x && le x b) ≡ true = true_of (le a x && le x b) h in
          let low = T_from_true (le a x) (left_of (le a x) (le x b) both) in
          let high = T_from_true (le x b) (right_of (le a x) (le x b) both) in
          ⊎_elim
          (λ (below : a <ᶠ x). eq-not_lt a b same (lt_of_lt_of_le a x b below high))
          (λ (is : T (eq a x)). not_T_false (eq a x) e is)
          (lt-or-eq a x low))
    ] refl

same_found : (ps : List PlacedText) (x : Float) → AreKeys ps
    → find (λ p. eq p.least x) ps ≡ find (is_within x) ps
same_found [] x keys = refl
same_found (p ∷ ps) x keys =
    ap (λ b. cond b (Some p) (find (λ q. eq q.least x) ps))
    (sym (key_is p.least p.greatest x (left_of (is_key p) (list_all is_key ps) keys)))
    ∙ ap (λ o. cond (is_within x p) (Some p) o)
    (same_found ps x (right_of (is_key p) (list_all is_key ps) keys))

pub same_formulas : SameFormulas
same_formulas = record {
  linear = same_linear;
  rational = same_rational;
  texts = λ rows ps x keys.
      ap (option_and_then (λ (p : PlacedText). slice_get rows p.row)) (same_found ps x keys);
}
