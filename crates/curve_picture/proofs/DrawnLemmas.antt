-- What bins keep of values whose places are chosen by tests that agree, or that part them.
use Rattle.std.proofs.Common.{◌≡◌, ℕ, suc, ◌≤◌, Bool, true, false, cond, ◌&&◌, ◌||◌, List, [], ◌∷◌, Some, None, refl, sym, ap, subst, ◌∙◌, ◌⊎◌, inl, inr, arith}
use Rattle.std.specs.Prelude.{All, Contains}
use Rattle.std.specs.List.{list_any}
use Rattle.std.specs.Float.{float_is_finite}
use Rattle.std.proofs.lemmas.List.Elements.{All-cons, All-nil, All-weaker}
use Rattle.curve_picture.specs.declared.bin.Bin.{Bin}
use Rattle.curve_picture.specs.declared.point.Point.{Point}
use Rattle.curve_picture.specs.Curves.{IsBinOf, IsKept, drawn}
use Rattle.curve_picture.specs.Inner.{bin_of, empty_bin, joined_bin, stretch_of}
use Rattle.curve_picture.specs.Values.{Seen}
use Rattle.curve_picture.proofs.StretchLemmas.{Mixes, joined_kept, one_stands}

-- what lies between two places
abbrev pub Between : ℕ → ℕ → List Seen → Type 0
Between low high [] = Unit {0}
Between low high (s ∷ seen) = (low ≤ s.at) × (s.at ≤ high) × Between low high seen

here : (s : Seen) (xs : List Seen) → Contains (s ∷ xs) s
here s xs = (0, omega arith, refl)

there : (s x : Seen) (xs : List Seen) → Contains xs x → Contains (s ∷ xs) x
there s x xs h = (suc h.0, omega (arith, h.1), h.2)

-- one value more of the one list, of the other, or of both
kept : (s : Seen) (a c : List Seen) → All (Contains c) a → All (Contains (s ∷ c)) a
kept s a c h = All-weaker (Contains c) (Contains (s ∷ c)) (λ x at. there s x c at) a h

more_left : (s : Seen) (a b c : List Seen) → Mixes a b c → Mixes (s ∷ a) b (s ∷ c)
more_left s a b c m = record {
  left = All-cons (Contains (s ∷ c)) s a (here s c) (kept s a c m.left);
  right = kept s b c m.right;
  no_more =
      All-cons (λ (x : Seen). Contains (s ∷ a) x ⊎ Contains b x) s c (inl (here s a))
      (All-weaker (λ (x : Seen). Contains a x ⊎ Contains b x) (λ (x : Seen). Contains (s ∷ a) x ⊎ Contains b x)
      (λ x h. elim h [ inl l ↦ inl (there s x a l) | inr r ↦ inr r ]) c m.no_more);
}

more_right : (s : Seen) (a b c : List Seen) → Mixes a b c → Mixes a (s ∷ b) (s ∷ c)
more_right s a b c m = record {
  left = kept s a c m.left;
  right = All-cons (Contains (s ∷ c)) s b (here s c) (kept s b c m.right);
  no_more =
      All-cons (λ (x : Seen). Contains a x ⊎ Contains (s ∷ b) x) s c (inr (here s b))
      (All-weaker (λ (x : Seen). Contains a x ⊎ Contains b x) (λ (x : Seen). Contains a x ⊎ Contains (s ∷ b) x)
      (λ x h. elim h [ inl l ↦ inl l | inr r ↦ inr (there s x b r) ]) c m.no_more);
}

more_both : (s : Seen) (a b c : List Seen) → Mixes a b c → Mixes (s ∷ a) (s ∷ b) (s ∷ c)
more_both s a b c m = record {
  left = All-cons (Contains (s ∷ c)) s a (here s c) (kept s a c m.left);
  right = All-cons (Contains (s ∷ c)) s b (here s c) (kept s b c m.right);
  no_more =
      All-cons (λ (x : Seen). Contains (s ∷ a) x ⊎ Contains (s ∷ b) x) s c (inl (here s a))
      (All-weaker (λ (x : Seen). Contains a x ⊎ Contains b x) (λ (x : Seen). Contains (s ∷ a) x ⊎ Contains (s ∷ b) x)
      (λ x h. elim h [ inl l ↦ inl (there s x a l) | inr r ↦ inr (there s x b r) ]) c m.no_more);
}

no_mix : Mixes [] [] []
no_mix = record {
  left = All-nil (Contains []);
  right = All-nil (Contains []);
  no_more = All-nil (λ (x : Seen). Contains [] x ⊎ Contains [] x);
}

step_mixed : (p q f : Bool) (s : Seen) (a b c : List Seen) → Mixes a b c
    → Mixes (cond (p && f) (s ∷ a) a) (cond (q && f) (s ∷ b) b) (cond ((p || q) && f) (s ∷ c) c)
step_mixed true true true s a b c m = more_both s a b c m
step_mixed true false true s a b c m = more_left s a b c m
step_mixed false true true s a b c m = more_right s a b c m
step_mixed false false true s a b c m = m
step_mixed true true false s a b c m = m
step_mixed true false false s a b c m = m
step_mixed false true false s a b c m = m
step_mixed false false false s a b c m = m

-- the values that are drawn under a test that is one of two
pub mixed : (p q r : ℕ → Bool) (low high : ℕ) (seen : List Seen) → Between low high seen
    → ((at : ℕ) → low ≤ at → at ≤ high → r at ≡ p at || q at)
    → Mixes (drawn p seen) (drawn q seen) (drawn r seen)
mixed p q r low high [] h e = no_mix
mixed p q r low high (s ∷ seen) h e =
    subst (λ (t : Bool). Mixes (drawn p (s ∷ seen)) (drawn q (s ∷ seen)) (cond (t && float_is_finite s.value) (s ∷ drawn r seen) (drawn r seen)))
    (sym (e s.at h.0 h.1))
    (step_mixed (p s.at) (q s.at) (float_is_finite s.value) s (drawn p seen) (drawn q seen) (drawn r seen) (mixed p q r low high seen h.2 e))

same_drawn : (p q : ℕ → Bool) (low high : ℕ) (seen : List Seen) → Between low high seen
    → ((at : ℕ) → low ≤ at → at ≤ high → p at ≡ q at) → drawn p seen ≡ drawn q seen
same_drawn p q low high [] h e = refl
same_drawn p q low high (s ∷ seen) h e =
    ap (λ (t : Bool). cond (t && float_is_finite s.value) (s ∷ drawn p seen) (drawn p seen)) (e s.at h.0 h.1)
    ∙ ap (λ (x : List Seen). cond (q s.at && float_is_finite s.value) (s ∷ x) x) (same_drawn p q low high seen h.2 e)

pub none_drawn : (p : ℕ → Bool) (low high : ℕ) (seen : List Seen) → Between low high seen
    → ((at : ℕ) → low ≤ at → at ≤ high → p at ≡ false) → drawn p seen ≡ []
none_drawn p low high [] h e = refl
none_drawn p low high (s ∷ seen) h e =
    ap (λ (t : Bool). cond (t && float_is_finite s.value) (s ∷ drawn p seen) (drawn p seen)) (e s.at h.0 h.1)
    ∙ none_drawn p low high seen h.2 e

-- whether samples were dropped before a value that is chosen
abbrev lost_at : (ℕ → Bool) → List Seen → Bool
lost_at p seen = list_any (λ s. p s.at && s.lost) seen

step_lost : (p q l x y : Bool) → ((p || q) && l) || (x || y) ≡ ((p && l) || x) || ((q && l) || y)
step_lost true true true x y = refl
step_lost true false true x y = refl
step_lost false true true true y = refl
step_lost false true true false y = refl
step_lost false false true x y = refl
step_lost true true false x y = refl
step_lost true false false x y = refl
step_lost false true false x y = refl
step_lost false false false x y = refl

parted_lost : (p q r : ℕ → Bool) (low high : ℕ) (seen : List Seen) → Between low high seen
    → ((at : ℕ) → low ≤ at → at ≤ high → r at ≡ p at || q at)
    → lost_at r seen ≡ lost_at p seen || lost_at q seen
parted_lost p q r low high [] h e = refl
parted_lost p q r low high (s ∷ seen) h e =
    ap (λ (t : Bool). (t && s.lost) || lost_at r seen) (e s.at h.0 h.1)
    ∙ ap (λ (t : Bool). ((p s.at || q s.at) && s.lost) || t) (parted_lost p q r low high seen h.2 e)
    ∙ step_lost (p s.at) (q s.at) s.lost (lost_at p seen) (lost_at q seen)

same_lost : (p q : ℕ → Bool) (low high : ℕ) (seen : List Seen) → Between low high seen
    → ((at : ℕ) → low ≤ at → at ≤ high → p at ≡ q at) → lost_at p seen ≡ lost_at q seen
same_lost p q low high [] h e = refl
same_lost p q low high (s ∷ seen) h e =
    ap (λ (t : Bool). (t && s.lost) || lost_at p seen) (e s.at h.0 h.1)
    ∙ ap (λ (t : Bool). (q s.at && s.lost) || t) (same_lost p q low high seen h.2 e)

none_lost : (p : ℕ → Bool) (low high : ℕ) (seen : List Seen) → Between low high seen
    → ((at : ℕ) → low ≤ at → at ≤ high → p at ≡ false) → lost_at p seen ≡ false
none_lost p low high [] h e = refl
none_lost p low high (s ∷ seen) h e =
    ap (λ (t : Bool). (t && s.lost) || lost_at p seen) (e s.at h.0 h.1) ∙ none_lost p low high seen h.2 e

-- the bin of a test that agrees, of one that is one of two, and of one that chooses nothing
pub same_bin : (bin : Bin) (p q : ℕ → Bool) (low high : ℕ) (seen : List Seen) → Between low high seen
    → ((at : ℕ) → low ≤ at → at ≤ high → p at ≡ q at) → IsBinOf bin p seen → IsBinOf bin q seen
same_bin bin p q low high seen h e is = record {
  curve = subst (λ (x : List Seen). IsKept bin.curve x) (same_drawn p q low high seen h e) is.curve;
  lost = is.lost ∙ same_lost p q low high seen h e;
}

pub parted_bin : (x y : Bin) (p q r : ℕ → Bool) (low high : ℕ) (seen : List Seen) → Between low high seen
    → ((at : ℕ) → low ≤ at → at ≤ high → r at ≡ p at || q at)
    → IsBinOf x p seen → IsBinOf y q seen → IsBinOf (joined_bin x y) r seen
parted_bin x y p q r low high seen h e left right = record {
  curve = joined_kept x.curve y.curve (drawn p seen) (drawn q seen) (drawn r seen) (mixed p q r low high seen h e) left.curve right.curve;
  lost =
      ap (λ (t : Bool). t || y.lost) left.lost
      ∙ ap (λ (t : Bool). lost_at p seen || t) right.lost
      ∙ sym (parted_lost p q r low high seen h e);
}

pub no_bin : (p : ℕ → Bool) (low high : ℕ) (seen : List Seen) → Between low high seen
    → ((at : ℕ) → low ≤ at → at ≤ high → p at ≡ false) → IsBinOf empty_bin p seen
no_bin p low high seen h e = record {
  curve = none_drawn p low high seen h e;
  lost = sym (none_lost p low high seen h e);
}

-- a value more: it is chosen, or it isn't
all_right : (b : List Seen) → Mixes [] b b
all_right [] = no_mix
all_right (s ∷ b) = more_right s [] b b (all_right b)

step_noted : (bin : Bin) (place : Point) (mark f : Bool) (s : Seen) (rest : List Seen) → s.at ≡ place.at → s.value ≡ place.value
    → float_is_finite place.value ≡ f → IsKept bin.curve rest
    → IsKept (joined_bin (bin_of place mark) bin).curve (cond f (s ∷ rest) rest)
step_noted bin place mark true s rest at value is h =
    subst (λ (t : Bool). IsKept (joined_bin (record { curve = cond t (Some (stretch_of place)) None; lost = mark }) bin).curve (s ∷ rest)) (sym is)
    (joined_kept (Some (stretch_of place)) bin.curve (s ∷ []) rest (s ∷ rest) (more_left s [] rest rest (all_right rest)) (one_stands place s at value is) h)
step_noted bin place mark false s rest at value is h =
    subst (λ (t : Bool). IsKept (joined_bin (record { curve = cond t (Some (stretch_of place)) None; lost = mark }) bin).curve rest) (sym is) h

pub noted_bin : (bin : Bin) (p : ℕ → Bool) (place : Point) (mark : Bool) (seen : List Seen) → p place.at ≡ true
    → IsBinOf bin p seen
    → IsBinOf (joined_bin (bin_of place mark) bin) p ((record { at = place.at; value = place.value; lost = mark }) ∷ seen)
noted_bin bin p place mark seen chosen h = record {
  curve =
      subst (λ (t : Bool). IsKept (joined_bin (bin_of place mark) bin).curve (cond (t && float_is_finite place.value) ((record { at = place.at; value = place.value; lost = mark }) ∷ drawn p seen) (drawn p seen))) (sym chosen)
      (step_noted bin place mark (float_is_finite place.value) (record { at = place.at; value = place.value; lost = mark }) (drawn p seen) refl refl refl h.curve);
  lost = ap (λ (t : Bool). mark || t) h.lost ∙ ap (λ (t : Bool). (t && mark) || lost_at p seen) (sym chosen);
}

pub unnoted_bin : (bin : Bin) (p : ℕ → Bool) (s : Seen) (seen : List Seen) → p s.at ≡ false
    → IsBinOf bin p seen → IsBinOf bin p (s ∷ seen)
unnoted_bin bin p s seen other h = record {
  curve = subst (λ (t : Bool). IsKept bin.curve (cond (t && float_is_finite s.value) (s ∷ drawn p seen) (drawn p seen))) (sym other) h.curve;
  lost = h.lost ∙ ap (λ (t : Bool). (t && s.lost) || lost_at p seen) (sym other);
}
