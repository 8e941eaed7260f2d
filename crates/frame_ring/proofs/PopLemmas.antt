-- Blocks are popped one by one.
use Rattle.std.proofs.Common.{◌≡◌, ℕ, zero, suc, ◌+◌, List, [], ◌∷◌, ◌++◌, drop, take, refl, sym, ap, ◌∙◌, subst, append-nil, append_assoc}
use Rattle.rtrb.specs.Fifo.{Allowed}
use Rattle.rtrb.specs.Ring.{SameConsumer, known_items, received}
use Rattle.rtrb.specs.declared.consumer.Consumer.{Consumer}
use Rattle.frame_ring.specs.Fronts.{BeginRecords}
use Rattle.frame_ring.specs.Inner.{PopsFront}

-- the next element, and what is left behind it
take-next : {X : Type 0} (n : ℕ) (xs ys : List X) (x : X) → drop n xs ≡ x ∷ ys → take (suc n) xs ≡ take n xs ++ x ∷ []
take-next n [] ys x e = absurd (none n x ys e) where
  none : {X : Type 0} (n : ℕ) (x : X) (ys : List X) → drop n [] ≡ x ∷ ys → ⊥
  none zero x ys e = cc
  none (suc n) x ys e = cc
take-next zero (z ∷ xs) ys x e = cc
take-next (suc n) (z ∷ xs) ys x e = ap (λ zs. z ∷ zs) (take-next n xs ys x e)

drop-next : {X : Type 0} (n : ℕ) (xs ys : List X) (x : X) → drop n xs ≡ x ∷ ys → drop (suc n) xs ≡ ys
drop-next n [] ys x e = absurd (none n x ys e) where
  none : {X : Type 0} (n : ℕ) (x : X) (ys : List X) → drop n [] ≡ x ∷ ys → ⊥
  none zero x ys e = cc
  none (suc n) x ys e = cc
drop-next zero (z ∷ xs) ys x e = cc
drop-next (suc n) (z ∷ xs) ys x e = drop-next n xs ys x e

-- one more that is allowed
allowed_more : {T : Type 0} (allows : List T → T → Type 0) (before xs : List T) (x : T) → Allowed allows before xs → allows (before ++ xs) x → Allowed allows before (xs ++ x ∷ [])
allowed_more allows before [] x all more = (subst (λ ys. allows ys x) (append-nil before) more, tt)
allowed_more allows before (y ∷ xs) x all more =
    (all.0, allowed_more allows (before ++ y ∷ []) xs x all.1 (subst (λ ys. allows ys x) (sym (append_assoc before (y ∷ []) xs)) more))

module _ {A P : Type 0} where
  pub pops-none : (a : Consumer (List ℕ) A P) → SameConsumer a a → PopsFront zero a a
  pops-none a same = record { ring = same; popped = sym (append-nil (received a)); known = refl; allowed = tt }

  -- one more is popped
  pub pops-next : (n : ℕ) (a b c : Consumer (List ℕ) A P) (x : List ℕ) → PopsFront n a b → SameConsumer a c → received c ≡ received b ++ x ∷ [] → known_items b ≡ x ∷ known_items c
      → BeginRecords (received b ++ x ∷ []) → PopsFront (suc n) a c
  pops-next n a b c x pops same gains next allowed =
      let known = known_items a in
      let at : drop n known ≡ x ∷ known_items c = sym pops.known ∙ next in
      let more = take-next n known (known_items c) x at in
      record {
        ring = same;
        popped = gains ∙ ap (λ ys. ys ++ x ∷ []) pops.popped ∙ append_assoc (received a) (take n known) (x ∷ []) ∙ ap (λ ys. received a ++ ys) (sym more);
        known = sym (drop-next n known (known_items c) x at);
        allowed =
            subst (λ ys. Allowed (λ past block. BeginRecords (past ++ block ∷ [])) (received a) ys) (sym more)
            (allowed_more (λ past block. BeginRecords (past ++ block ∷ [])) (received a) (take n known) x pops.allowed (subst (λ ys. BeginRecords (ys ++ x ∷ [])) pops.popped allowed));
      }
