-- How many items a merge of a few short lists has.
use Rattle.std.proofs.Common.{◌≡◌, ◌≢◌, ℕ, zero, suc, ◌+◌, ◌≤◌, true, false, cond, inl, inr, List, [], ◌∷◌, length, refl, sym, ap, subst, ◌∙◌, arith, eqb}
use Rattle.std.proofs.lemmas.Bool.Decides.{eqb_tells}
use Rattle.xcp_base.specs.declared.item.Item.{Item}
use Rattle.transmitter.specs.Merge.{taken_from}

-- what was not taken from ring c
others : ℕ → List (ℕ × Item) → List (ℕ × Item)
others c [] = []
others c (p ∷ ps) = cond (eqb p.0 c) (others c ps) (p ∷ others c ps)

split-length : (c : ℕ) (ps : List (ℕ × Item)) → length ps ≡ length (taken_from c ps) + length (others c ps)
unfolding others
split-length c [] = refl
split-length c (p ∷ ps) =
    let later = split-length c ps in
    elim (eqb p.0 c) as (λ b. suc (length ps) ≡ length (cond b (p.1 ∷ taken_from c ps) (taken_from c ps)) + length (cond b (others c ps) (p ∷ others c ps))) [
      | true ↦ omega (arith, later)
      | false ↦ omega (arith, later)
    ]

others-own : (c : ℕ) (ps : List (ℕ × Item)) → taken_from c (others c ps) ≡ []
unfolding others
others-own c [] = refl
others-own c (p ∷ ps) =
    let later = others-own c ps in
    elim (eqb_tells p.0 c) [
      | inl t ↦ ap (λ b. taken_from c (cond b (others c ps) (p ∷ others c ps))) t.0 ∙ later
      | inr t ↦ ap (λ b. taken_from c (cond b (others c ps) (p ∷ others c ps))) t.0 ∙ (ap (λ b. cond b (p.1 ∷ taken_from c (others c ps)) (taken_from c (others c ps))) t.0 ∙ later)
    ]

others-same : (k c : ℕ) (ps : List (ℕ × Item)) → k ≢ c → taken_from k (others c ps) ≡ taken_from k ps
unfolding others
others-same k c [] apart = refl
others-same k c (p ∷ ps) apart =
    let later = others-same k c ps apart in
    elim (eqb_tells p.0 c) [
      | inl t ↦
          elim (eqb_tells p.0 k) [
            | inl u ↦ absurd (apart (sym u.1 ∙ t.1))
            | inr u ↦ ap (λ b. taken_from k (cond b (others c ps) (p ∷ others c ps))) t.0 ∙ (later ∙ ap (λ b. cond b (p.1 ∷ taken_from k ps) (taken_from k ps)) (sym u.0))
          ]
      | inr t ↦
          ap (λ b. taken_from k (cond b (others c ps) (p ∷ others c ps))) t.0
          ∙ elim (eqb p.0 k) as (λ b. cond b (p.1 ∷ taken_from k (others c ps)) (taken_from k (others c ps)) ≡ cond b (p.1 ∷ taken_from k ps) (taken_from k ps)) [ true ↦ ap (λ x. p.1 ∷ x) later | false ↦ later ]
    ]

none_at_all : (ps : List (ℕ × Item)) → ((c : ℕ) → taken_from c ps ≡ []) → length ps ≡ 0
none_at_all [] h = refl
none_at_all (p ∷ ps) h =
    elim (eqb_tells p.0 p.0) [
      | inl t ↦ (let none : p.1 ∷ taken_from p.0 ps ≡ [] = ap (λ b. cond b (p.1 ∷ taken_from p.0 ps) (taken_from p.0 ps)) (sym t.0) ∙ h p.0 in absurd cc)
      | inr t ↦ absurd (t.1 refl)
    ]

-- so many from each of n rings
unfoldable pub times : ℕ → ℕ → ℕ
times zero m = 0
times (suc n) m = m + times n m

pub few_of_each : (n m : ℕ) (ps : List (ℕ × Item)) → ((c : ℕ) → n ≤ c → taken_from c ps ≡ []) → ((c : ℕ) → length (taken_from c ps) ≤ m) → length ps ≤ times n m
unfolding times
few_of_each zero m ps none few = omega (arith, none_at_all ps (λ c. none c (omega arith)))
few_of_each (suc n) m ps none few =
    let rest = few_of_each n m (others n ps)
    (λ c above.
    elim (eqb_tells c n) [
      | inl t ↦ subst (λ k. taken_from k (others n ps) ≡ []) (sym t.1) (others-own n ps)
      | inr t ↦ others-same c n ps t.1 ∙ none c (let apart = t.1 in above_more n c above apart)
    ])
    (λ c.
    elim (eqb_tells c n) [
      | inl t ↦ (let none_here = subst (λ k. taken_from k (others n ps) ≡ []) (sym t.1) (others-own n ps) in omega (arith, ap length none_here))
      | inr t ↦ omega (arith, few c, ap length (others-same c n ps t.1))
    ]) in
    omega (arith, rest, few n, split-length n ps)
  where
    above_more : (n c : ℕ) → n ≤ c → c ≢ n → suc n ≤ c
    above_more zero zero h apart = absurd (apart refl)
    above_more zero (suc c) h apart = omega arith
    above_more (suc n) zero h apart = absurd (omega (arith, h))
    above_more (suc n) (suc c) h apart = omega (arith, above_more n c (omega (arith, h)) (λ e. apart (ap (λ k. suc k) e)))

pub eight_rings : times 8 16000001 ≡ 128000008
unfolding times
eight_rings = refl
