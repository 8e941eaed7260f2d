-- Each step at the place of a line keeps its rule.
use Rattle.std.proofs.Common.{◌≡◌, ◌≢◌, ℕ, ◌≤◌, zero, suc, true, false, true≢false, List, [], ◌∷◌, ◌++◌, length, set, sym, refl, ap, ◌∙◌, subst, ⊎_elim, append_assoc, append-nil, length-append, arith}
use mathlib.Core.Option.{some, some-ne-none}
use mathlib.Core.List.{IsPrefix}
use lib.ListN.{get_elem?}
use Rattle.crossbeam_queue.specs.Fifo.{Pushes, Pops, Forks, Merges, Learns}
use Rattle.crossbeam_queue.proofs.Lists.{at_set, at_snoc}
use Rattle.hand_over.specs.declared.known.Known.{Known}
use Rattle.hand_over.specs.Places.{Fits, IsInTurn, IsRecalled, known}

module _ {T : Type 0} where
  abbrev All : (ℕ → Known T → Type 0) → List (Known T) → Type 0
  All F views = (j : ℕ) (v : Known T) → get_elem? views j ≡ some v → F j v

  at_end : (l : List (Known T)) (a b : Known T) (j : ℕ) → get_elem? l j ≢ some b
      → get_elem? (l ++ a ∷ []) j ≡ some b → j ≡ length l
  at_end [] a b zero n e = refl
  at_end [] a b (suc j) n e = absurd (some-ne-none b (sym e))
  at_end (x ∷ xs) a b zero n e = absurd (n e)
  at_end (x ∷ xs) a b (suc j) n e = ap suc (at_end xs a b j n e)

  all_set : (F : ℕ → Known T → Type 0) (views : List (Known T)) (port : ℕ) (w : Known T)
      → F port w → ((j : ℕ) (u : Known T) → j ≢ port → get_elem? views j ≡ some u → F j u)
      → All F (set views port w)
  all_set F views port w mine others j u e = ⊎_elim
      (λ (x : (j ≡ port) × (w ≡ u)).
      subst (λ (y : ℕ × Known T). F y.0 y.1) (λ i. (sym x.0 i, x.1 i)) mine)
      (λ (x : (j ≢ port) × (get_elem? views j ≡ some u)). others j u x.0 x.1)
      (at_set views port j w u e)

  none_seen : (xs : List T) → IsPrefix [] xs
  none_seen xs = (xs, refl)

  all_seen : (xs : List T) → IsPrefix xs xs
  all_seen xs = ([], append-nil xs)

  seen_longer : (xs ys zs : List T) → IsPrefix xs ys → IsPrefix xs (ys ++ zs)
  seen_longer xs ys zs p = (p.0 ++ zs, sym (append_assoc xs p.0 zs) ∙ ap (λ l. l ++ zs) p.1)

  pub begins : IsInTurn {T = T} [] (known true true [] [] ∷ [])
  begins = record {
    lender = 0;
    borrower = 0;
    lent = [];
    fetched = [];
    in_turn = refl;
    few = omega arith;
    each = all_set (Fits 0 0 [] []) (known true true [] [] ∷ []) 0 (known true true [] [])
        (record {
          lends = λ _. (refl, refl);
          fetches = λ _. (refl, refl);
          seen = none_seen [];
        })
        (λ j u other e. absurd (other (at_end [] _ u j (λ x. some-ne-none u (sym x)) e)));
  }

  pub lends : (port : ℕ) (v : Known T) (x : T) → v.lends ≡ true → v.fetches ≡ false
      → Pushes IsInTurn 1 port v x (λ w. w ≡ known true false (v.lent ++ x ∷ []) v.fetched)
  lends port v x may not items views room h at =
      let w : Known T = known true false (v.lent ++ x ∷ []) v.fetched in
      let mine = h.each port v at in
      let lent : List T = h.lent ++ x ∷ [] in (
        w,
        record {
          lender = h.lender;
          borrower = h.borrower;
          lent = lent;
          fetched = h.fetched;
          in_turn = ap (λ l. l ++ x ∷ []) h.in_turn ∙ append_assoc h.fetched items (x ∷ []);
          few = omega (arith, length-append items (x ∷ []));
          each = all_set (Fits h.lender h.borrower lent h.fetched) views port w
              (record {
                lends = λ _. ((mine.lends may).0, ap (λ l. l ++ x ∷ []) (mine.lends may).1);
                fetches = λ p. absurd (true≢false (sym p));
                seen = mine.seen;
              })
              (λ j u other e. record {
                lends = λ p. absurd (other (((h.each j u e).lends p).0 ∙ sym (mine.lends may).0));
                fetches = (h.each j u e).fetches;
                seen = (h.each j u e).seen;
              });
        },
        refl,
      )

  none_behind : (x : T) (items : List T) → length (x ∷ items) ≤ 1 → items ≡ []
  none_behind x [] few = refl
  none_behind x (y ∷ items) few = absurd (omega arith)

  pub recalls : (port : ℕ) (v : Known T) → v.lends ≡ true → v.fetches ≡ false
      → Pops IsInTurn port v (λ x w. IsRecalled v x w)
  recalls port v may not x items views h at =
      let w : Known T = known true false h.fetched v.fetched in
      let mine = h.each port v at in
      let none : items ≡ [] = none_behind x items h.few in (
        w,
        record {
          lender = h.lender;
          borrower = h.borrower;
          lent = h.fetched;
          fetched = h.fetched;
          in_turn = sym (append-nil h.fetched) ∙ ap (λ l. h.fetched ++ l) (sym none);
          few = omega (arith, h.few);
          each = all_set (Fits h.lender h.borrower h.fetched h.fetched) views port w
              (record {
                lends = λ _. ((mine.lends may).0, refl);
                fetches = λ p. absurd (true≢false (sym p));
                seen = mine.seen;
              })
              (λ j u other e. record {
                lends = λ p. absurd (other (((h.each j u e).lends p).0 ∙ sym (mine.lends may).0));
                fetches = (h.each j u e).fetches;
                seen = (h.each j u e).seen;
              });
        },
        record {
          rest = refl;
          last = (mine.lends may).1 ∙ h.in_turn ∙ ap (λ l. h.fetched ++ x ∷ l) none;
          seen = mine.seen;
        },
      )

  pub fetches : (port : ℕ) (v : Known T) → v.lends ≡ false → v.fetches ≡ true
      → Pops IsInTurn port v (λ x w. w ≡ known false true [] (v.fetched ++ x ∷ []))
  fetches port v not may x items views h at =
      let w : Known T = known false true [] (v.fetched ++ x ∷ []) in
      let mine = h.each port v at in
      let fetched : List T = h.fetched ++ x ∷ [] in (
        w,
        record {
          lender = h.lender;
          borrower = h.borrower;
          lent = h.lent;
          fetched = fetched;
          in_turn = h.in_turn ∙ sym (append_assoc h.fetched (x ∷ []) items);
          few = omega (arith, h.few);
          each = all_set (Fits h.lender h.borrower h.lent fetched) views port w
              (record {
                lends = λ p. absurd (true≢false (sym p));
                fetches = λ _. ((mine.fetches may).0, ap (λ l. l ++ x ∷ []) (mine.fetches may).1);
                seen = subst (λ l. IsPrefix l fetched)
                    (ap (λ l. l ++ x ∷ []) (sym (mine.fetches may).1)) (all_seen fetched);
              })
              (λ j u other e. record {
                lends = (h.each j u e).lends;
                fetches = λ p. absurd (other (((h.each j u e).fetches p).0 ∙ sym (mine.fetches may).0));
                seen = seen_longer u.fetched h.fetched (x ∷ []) (h.each j u e).seen;
              });
        },
        refl,
      )

  pub parts : (port : ℕ) (v : Known T) → v.lends ≡ true → v.fetches ≡ true
      → Forks IsInTurn port v (known true false v.lent []) (known false true [] v.fetched)
  parts port v a b items views h at =
      let l : Known T = known true false v.lent [] in
      let r : Known T = known false true [] v.fetched in
      let mine = h.each port v at in
      let vs : List (Known T) = set views port l in
      let Old : ℕ → Known T → Type 0 = λ j u.
      (u.lends ≡ true → (j ≡ h.lender) × (u.lent ≡ h.lent))
      × (u.fetches ≢ true) × IsPrefix u.fetched h.fetched in
      let old : All Old vs = all_set Old views port l
      ((λ _. mine.lends a), (λ p. true≢false (sym p)), none_seen h.fetched)
      (λ j u other e. (
        (h.each j u e).lends,
        (λ p. other (((h.each j u e).fetches p).0 ∙ sym (mine.fetches b).0)),
        (h.each j u e).seen,
      )) in
      record {
        lender = h.lender;
        borrower = length vs;
        lent = h.lent;
        fetched = h.fetched;
        in_turn = h.in_turn;
        few = h.few;
        each = λ j u e. ⊎_elim
            (λ x. record {
              lends = (old j u x).0;
              fetches = λ p. absurd ((old j u x).1 p);
              seen = (old j u x).2;
            })
            (λ (is : r ≡ u). record {
              lends = λ p. absurd (true≢false (sym (ap (λ (y : Known T). y.lends) is ∙ p)));
              fetches = λ p. (
                at_end vs r u j (λ x. (old j u x).1 p) e,
                ap (λ (y : Known T). y.fetched) (sym is) ∙ (mine.fetches b).1,
              );
              seen = subst (λ (y : Known T). IsPrefix y.fetched h.fetched) is mine.seen;
            })
            (at_snoc vs r u j e);
      }

  -- a pass that shows what another knows to have been fetched is made of it
  pub shows : (port : ℕ) (v : Known T)
      → Forks IsInTurn port v v (known false false [] v.fetched)
  shows port v items views h at =
      let r : Known T = known false false [] v.fetched in
      let mine = h.each port v at in
      let vs : List (Known T) = set views port v in
      let F = Fits h.lender h.borrower h.lent h.fetched in
      let old : All F vs = all_set F views port v mine (λ j u other e. h.each j u e) in
      record {
        lender = h.lender;
        borrower = h.borrower;
        lent = h.lent;
        fetched = h.fetched;
        in_turn = h.in_turn;
        few = h.few;
        each = λ j u e. ⊎_elim (λ x. old j u x)
            (λ (is : r ≡ u). record {
              lends = λ p. absurd (true≢false (sym (ap (λ (y : Known T). y.lends) is ∙ p)));
              fetches = λ p. absurd (true≢false (sym (ap (λ (y : Known T). y.fetches) is ∙ p)));
              seen = subst (λ (y : Known T). IsPrefix y.fetched h.fetched) is mine.seen;
            })
            (at_snoc vs r u j e);
      }

  pub sees : (port : ℕ) (v : Known T) (other : ℕ) (u : Known T) → v.lends ≡ true
      → v.fetches ≡ false → u.lends ≡ false → u.fetches ≡ false
      → Merges IsInTurn port v other u (known true false v.lent u.fetched)
      (known false false [] [])
  sees port v other u a b c d items views h at two at' =
      let both : Known T = known true false v.lent u.fetched in
      let spent : Known T = known false false [] [] in
      let mine = h.each port v at in
      let vs : List (Known T) = set views port both in
      let was : get_elem? views other ≡ some u =
      ⊎_elim (λ x. absurd (two x.0)) (λ x. x.1) (at_set views port other both u at') in
      let F = Fits h.lender h.borrower h.lent h.fetched in
      let now : All F vs = all_set F views port both
      (record {
        lends = λ _. mine.lends a;
        fetches = λ p. absurd (true≢false (sym p));
        seen = (h.each other u was).seen;
      })
      (λ j y _ e. h.each j y e) in
      record {
        lender = h.lender;
        borrower = h.borrower;
        lent = h.lent;
        fetched = h.fetched;
        in_turn = h.in_turn;
        few = h.few;
        each = all_set F vs other spent
            (record {
              lends = λ p. absurd (true≢false (sym p));
              fetches = λ p. absurd (true≢false (sym p));
              seen = none_seen h.fetched;
            })
            (λ j y _ e. now j y e);
      }

  pub learns : (port : ℕ) (v : Known T) → v.lends ≡ true
      → Learns IsInTurn port v (λ items. IsPrefix v.fetched v.lent)
  learns port v a items views h at =
      let mine = h.each port v at in
      subst (λ l. IsPrefix v.fetched l) (sym ((mine.lends a).1 ∙ h.in_turn))
      (seen_longer v.fetched h.fetched items mine.seen)
