-- What was taken from several rings, and then more.
use Rattle.std.proofs.Common.{◌≡◌, ℕ, ◌+◌, true, false, cond, eqb, List, [], ◌∷◌, ◌++◌, refl, sym, ap, ◌∙◌, append_assoc, append-nil, ◌<◌, ◌≤◌, arith, length, inl, inr, subst}
use mathlib.Core.List.{IsPrefix}
use Rattle.std.proofs.lemmas.Bool.Decides.{eqb_tells, nat_tests}
use Rattle.std.proofs.lemmas.List.{map-append}
use Rattle.std.proofs.lemmas.List.Sums.{sum_by-append}
use Rattle.xcp_base.specs.Samples.{SampleParts, MarkParts}
use Rattle.xcp_base.specs.declared.item.Item.{Item}
use Rattle.xcp_base.specs.declared.item.Item.TheVariants.{Sample, Marker}
use Rattle.transmitter.specs.Items.{count_of, packets_of, samples}
use Rattle.transmitter.specs.Merge.{AreRising, IsMerge, Takes, items_taken, of_ring, taken_from}

pub taken_from-append : (c : ℕ) (ps qs : List (ℕ × Item)) → taken_from c (ps ++ qs) ≡ taken_from c ps ++ taken_from c qs
taken_from-append c [] qs = refl
taken_from-append c (p ∷ ps) qs =
    elim (eqb p.0 c) as (λ b. cond b (p.1 ∷ taken_from c (ps ++ qs)) (taken_from c (ps ++ qs)) ≡ cond b (p.1 ∷ taken_from c ps) (taken_from c ps) ++ taken_from c qs) [
      | true ↦ ap (λ x. p.1 ∷ x) (taken_from-append c ps qs)
      | false ↦ taken_from-append c ps qs
    ]

pub items_taken-push : (ps : List (ℕ × Item)) (c : ℕ) (x : Item) → items_taken (ps ++ (c, x) ∷ []) ≡ items_taken ps ++ x ∷ []
items_taken-push ps c x = map-append (λ (p : ℕ × Item). p.1) ps ((c, x) ∷ [])

pub samples-append : (xs ys : List Item) → samples (xs ++ ys) ≡ samples xs ++ samples ys
samples-append [] ys = refl
samples-append (Sample s ∷ xs) ys = ap (λ t. s ∷ t) (samples-append xs ys)
samples-append (Marker m ∷ xs) ys = samples-append xs ys

pub packets_of-append : (xs ys : List SampleParts) → packets_of (xs ++ ys) ≡ packets_of xs ++ packets_of ys
packets_of-append [] ys = refl
packets_of-append (s ∷ xs) ys = ap (λ t. s.packets ++ t) (packets_of-append xs ys) ∙ sym (append_assoc s.packets (packets_of xs) (packets_of ys))

pub packets_of-push : (ss : List SampleParts) (r : SampleParts) → packets_of (ss ++ r ∷ []) ≡ packets_of ss ++ r.packets
packets_of-push ss r = packets_of-append ss (r ∷ []) ∙ ap (λ t. packets_of ss ++ t) (append-nil r.packets)

pub count_of-append : (l : ℕ) (xs ys : List SampleParts) → count_of l (xs ++ ys) ≡ count_of l xs + count_of l ys
count_of-append l xs ys = sum_by-append (λ (s : SampleParts). cond (eqb s.list l) 1 0) xs ys

-- the samples taken after one more stop marker, and after one more sample
pub samples-marker : (ps : List (ℕ × Item)) (c : ℕ) (m : MarkParts) → samples (items_taken (ps ++ (c, Marker m) ∷ [])) ≡ samples (items_taken ps)
samples-marker ps c m = ap samples (items_taken-push ps c (Marker m)) ∙ (samples-append (items_taken ps) (Marker m ∷ []) ∙ append-nil (samples (items_taken ps)))

pub samples-sample : (ps : List (ℕ × Item)) (c : ℕ) (s : SampleParts) → samples (items_taken (ps ++ (c, Sample s) ∷ [])) ≡ samples (items_taken ps) ++ s ∷ []
samples-sample ps c s = ap samples (items_taken-push ps c (Sample s)) ∙ samples-append (items_taken ps) (Sample s ∷ [])

-- what begins what begins the rest, begins the whole
prefix-trans : (known first left more last : List Item) → IsPrefix known (first ++ left) → IsPrefix left (more ++ last) → IsPrefix known ((first ++ more) ++ last)
prefix-trans known first left more last h k =
    (h.0 ++ k.0, sym (append_assoc known h.0 k.0) ∙ (ap (λ t. t ++ k.0) h.1 ∙ (append_assoc first left k.0 ∙ (ap (λ t. first ++ t) k.1 ∙ sym (append_assoc first more last)))))

-- nothing was taken, and nothing changed
pub takes-none : (received known : List (List Item)) → Takes received received known known []
takes-none received known = record { gains = λ c. sym (append-nil (of_ring received c)); first = λ c. ([], append-nil (of_ring known c)) }

-- items were taken, and then more
pub takes-append : (r s t k l m : List (List Item)) (ps qs : List (ℕ × Item)) → Takes r s k l ps → Takes s t l m qs → Takes r t k m (ps ++ qs)
takes-append r s t k l m ps qs a b = record {
  gains = λ c. b.gains c ∙ (ap (λ x. x ++ taken_from c qs) (a.gains c) ∙ (append_assoc (of_ring r c) (taken_from c ps) (taken_from c qs) ∙ ap (λ x. of_ring r c ++ x) (sym (taken_from-append c ps qs))));
  first = λ c. rw (taken_from-append c ps qs) (prefix-trans (of_ring k c) (taken_from c ps) (of_ring l c) (taken_from c qs) (of_ring m c) (a.first c) (b.first c));
}

-- a merge of what was received stays one when more is taken
pub merge-takes : (r s k l : List (List Item)) (ps qs : List (ℕ × Item)) → IsMerge r ps → Takes r s k l qs → IsMerge s (ps ++ qs)
merge-takes r s k l ps qs m t = record {
  each = λ c. taken_from-append c ps qs ∙ (ap (λ x. x ++ taken_from c qs) (m.each c) ∙ sym (t.gains c));
}

-- of a ring below the first nothing was taken
pub none_below : (low e : ℕ) (qs : List (ℕ × Item)) → AreRising low qs → e < low → taken_from e qs ≡ []
none_below low e [] r h = refl
none_below low e (p ∷ qs) r h =
    let other : eqb p.0 e ≡ false = grind (arith, nat_tests, r.0, h) in
    rw other (none_below (p.0 + 1) e qs r.1 (omega (arith, r.0, h)))

-- the item that was taken first is of its ring
pub some_first : (c : ℕ) (x : Item) (qs : List (ℕ × Item)) → taken_from c ((c, x) ∷ qs) ≡ x ∷ taken_from c qs
some_first c x qs =
    let same : eqb c c ≡ true = grind (arith, nat_tests) in
    rw same refl

-- and of no other
pub none_first : (c e : ℕ) (x : Item) (qs : List (ℕ × Item)) → c < e → taken_from e ((c, x) ∷ qs) ≡ taken_from e qs
none_first c e x qs h =
    let other : eqb c e ≡ false = grind (arith, nat_tests, h) in
    rw other refl

-- of each ring one item was taken at most
pub one_each : (low c : ℕ) (qs : List (ℕ × Item)) → AreRising low qs → length (taken_from c qs) ≤ 1
one_each low c [] r = omega arith
one_each low c ((e, x) ∷ qs) r = elim (eqb_tells e c) [
  | inl w ↦
      let at : e ≡ c = w.1 in
      let none = none_below (e + 1) c qs r.1 (omega (arith, at)) in
      let one = subst (λ k. taken_from k ((e, x) ∷ qs) ≡ x ∷ taken_from k qs) w.1 (some_first e x qs) in
      omega (arith, ap length one, ap length none)
  | inr w ↦ rw w.0 (one_each (e + 1) c qs r.1)
]

-- a list that begins with an item begins with no other
pub same_first : (x y : Item) (xs : List Item) → IsPrefix (x ∷ []) xs → IsPrefix (y ∷ []) xs → x ≡ y
same_first x y [] h k = absurd cc
same_first x y (z ∷ xs) h k = let a : x ≡ z = cc in let b : y ≡ z = cc in a ∙ sym b

-- where nothing is known after a look, nothing was
pub none_known : (r s k l : List (List Item)) (c : ℕ) → Takes r s k l [] → (0 < length (of_ring l c) → ⊥) → of_ring k c ≡ []
none_known r s k l c t none = none_of (of_ring k c) (of_ring l c) (t.first c) none
  where
    none_of : (xs ys : List Item) → IsPrefix xs ys → (0 < length ys → ⊥) → xs ≡ []
    none_of [] ys h none = refl
    none_of (x ∷ xs) [] h none = absurd cc
    none_of (x ∷ xs) (y ∷ ys) h none = absurd (none (omega arith))
