-- A list in which one element was changed, and what is shown of each element.
use Rattle.std.proofs.Common.{◌≡◌, ◌≢◌, ℕ, ◌<◌, inl, inr, List, [], ◌∷◌, ◌++◌, Some, length, map, get_or, set, sym, ap, ◌∙◌, append-nil, arith, get_or-set_same, get_or-set_other}
use mathlib.Core.List.{IsPrefix}
use Rattle.std.proofs.lemmas.List.{map-set, get_or-map, length-map}
use Rattle.std.specs.List.{slice_get}
use Rattle.std.proofs.lemmas.Option.{slice_get_within}
use Rattle.std.proofs.lemmas.Bool.Decides.{eqb_tells}
use Rattle.xcp_base.specs.declared.item.Item.{Item}
use Rattle.transmitter.specs.Merge.{Takes, of_ring}

-- what is shown at the place that was changed
pub shown_here : {A R : Type 0} → (f : A → R) (xs : List A) (c : ℕ) (new : A) (d : R) → c < length xs → get_or (map f (set xs c new)) c d ≡ f new
shown_here f xs c new d h = ap (λ t. get_or t c d) (map-set f xs c new) ∙ get_or-set_same (map f xs) c (f new) d (rw (length-map xs f) h)

-- the same where the place is known by what else is shown there
pub shown_at : {A Q R : Type 0} → (g : A → Q) (f : A → R) (xs : List A) (k c : ℕ) (new : A) (d : R) (q : Q) → k ≡ c → slice_get (map g xs) c ≡ Some q → get_or (map f (set xs k new)) c d ≡ f new
shown_at g f xs k c new d q same at =
    let h : c < length xs = omega (arith, slice_get_within (map g xs) c q at, length-map xs g) in
    rw same (shown_here f xs c new d h)

-- what is shown at another place
pub shown_elsewhere : {A R : Type 0} → (f : A → R) (xs : List A) (c e : ℕ) (new : A) (d : R) → e ≢ c → get_or (map f (set xs c new)) e d ≡ get_or (map f xs) e d
shown_elsewhere f xs c e new d n = ap (λ t. get_or t e d) (map-set f xs c new) ∙ get_or-set_other (map f xs) c e (f new) d n

-- one ring was looked at
pub takes-look : {T : Type 0} → (r k : T → List Item) (ts : List T) (c : ℕ) (old new : T) → c < length ts → old ≡ get_or ts c old → r new ≡ r old → IsPrefix (k old) (k new) → Takes (map r ts) (map r (set ts c new)) (map k ts) (map k (set ts c new)) []
takes-look r k ts c old new h at received known = record {
  gains = λ e. elim (eqb_tells c e) [
    | inl w ↦ rw (← w.1) (shown_here r ts c new [] h ∙ (received ∙ (ap r at ∙ (sym (get_or-map r ts c old [] h) ∙ sym (append-nil (of_ring (map r ts) c))))))
    | inr w ↦ shown_elsewhere r ts c e new [] (λ q. w.1 (sym q)) ∙ sym (append-nil (of_ring (map r ts) e))
  ];
  first = λ e. elim (eqb_tells c e) [
    | inl w ↦ rw (← w.1, get_or-map k ts c old [] h, ← at, shown_here k ts c new [] h) known
    | inr w ↦ ([], append-nil (of_ring (map k ts) e) ∙ sym (shown_elsewhere k ts c e new [] (λ q. w.1 (sym q))))
  ];
}

-- one ring gave an item
pub takes-one : {T : Type 0} → (r k : T → List Item) (ts : List T) (c : ℕ) (old new : T) (x : Item) → c < length ts → old ≡ get_or ts c old → r new ≡ r old ++ x ∷ [] → IsPrefix (k old) (x ∷ k new) → Takes (map r ts) (map r (set ts c new)) (map k ts) (map k (set ts c new)) ((c, x) ∷ [])
takes-one r k ts c old new x h at received first = record {
  gains = λ e. elim (eqb_tells c e) [
    | inl w ↦ rw (w.0, ← w.1) (shown_here r ts c new [] h ∙ (received ∙ ap (λ t. t ++ x ∷ []) (ap r at ∙ sym (get_or-map r ts c old [] h))))
    | inr w ↦ rw w.0 (shown_elsewhere r ts c e new [] (λ q. w.1 (sym q)) ∙ sym (append-nil (of_ring (map r ts) e)))
  ];
  first = λ e. elim (eqb_tells c e) [
    | inl w ↦ rw (w.0, ← w.1, get_or-map k ts c old [] h, ← at, shown_here k ts c new [] h) first
    | inr w ↦ rw w.0 ([], append-nil (of_ring (map k ts) e) ∙ sym (shown_elsewhere k ts c e new [] (λ q. w.1 (sym q))))
  ];
}

-- what is known there
pub known_here : {T : Type 0} → (k : T → List Item) (ts : List T) (c : ℕ) (old : T) → c < length ts → old ≡ get_or ts c old → of_ring (map k ts) c ≡ k old
known_here k ts c old h at = get_or-map k ts c old [] h ∙ ap k (sym at)
