-- Blocks are popped into a part of a page.
use Rattle.std.proofs.Common.{◌≡◌, ℕ, ◌+◌, ◌≤◌, List, [], ◌∷◌, ◌++◌, drop, take, length, length-append, refl, sym, ap, ◌∙◌, subst, arith}
use Rattle.std.proofs.lemmas.List.{drop-take, length-drop, length-take}
use Rattle.std.proofs.lemmas.Slice.{drop-put_mid, take-put_mid, take-put_mid_below}
use borrow.Rule.Slice.PartMut.{put_mid}
use mathlib.Core.List.{IsPrefix}
use Rattle.rtrb.specs.Fifo.{Allowed}
use Rattle.rtrb.specs.Ring.{SameConsumer, known_items, received}
use Rattle.rtrb.specs.declared.consumer.Consumer.{Consumer}
use Rattle.frame_ring.specs.Fronts.{BeginRecords}
use Rattle.frame_ring.specs.Inner.{PopsInto}

module _ {X : Type 0} where
  behind_front : (n : ℕ) (xs ys : List X) → length xs ≡ n → drop n (xs ++ ys) ≡ ys
  behind_front n [] ys h = ap (λ k. drop k ys) (sym h)
  behind_front n (x ∷ xs) ys h = ap (λ k. drop k (x ∷ xs ++ ys)) (sym h) ∙ behind_front (length xs) xs ys refl

  -- what was written to a part of a list stands there
  pub part_is : (at n : ℕ) (xs ys : List X) → at + n ≤ length xs → length ys ≡ n → take n (drop at (put_mid at n xs ys)) ≡ ys
  part_is at n xs ys fits many =
      sym (drop-take at n (put_mid at n xs ys))
      ∙ ap (drop at) (take-put_mid at n xs ys (at + n) (omega (arith, many)) (omega (arith, fits)))
      ∙ behind_front at (take at xs) ys (omega (arith, fits, length-take at xs))

  pub length_with_part : (at n : ℕ) (xs ys : List X) → at + n ≤ length xs → length ys ≡ n → length (put_mid at n xs ys) ≡ length xs
  length_with_part at n xs ys fits many =
      omega (arith, fits, many, length-append (take at xs) (ys ++ drop n (drop at xs)), length-append ys (drop n (drop at xs)), length-drop n (drop at xs), length-drop at xs, length-take at xs)

pub pops_into : {A P : Type 0} (a b : Consumer (List ℕ) A P) (at n : ℕ) (page now blocks : List (List ℕ)) → now ≡ put_mid at n page blocks → at + n ≤ length page → length blocks ≡ n
    → SameConsumer a b → received b ≡ received a ++ blocks → IsPrefix (known_items a) (blocks ++ known_items b)
    → Allowed (λ past block. BeginRecords (past ++ block ∷ [])) (received a) blocks
    → PopsInto a b at n page now
pops_into a b at n page now blocks is fits many ring popped known allowed =
    let part : blocks ≡ take n (drop at now) = sym (part_is at n page blocks fits many) ∙ ap (λ m. take n (drop at m)) (sym is) in
    record {
      ring = ring;
      len = ap length is ∙ length_with_part at n page blocks fits many;
      front = ap (take at) is ∙ take-put_mid_below at n page blocks at (omega arith) (omega (arith, fits));
      behind = ap (drop (at + n)) is ∙ drop-put_mid at n page blocks (at + n) (omega arith) (omega (arith, fits)) many;
      many = ap length (sym part) ∙ many;
      popped = popped ∙ ap (λ r. received a ++ r) part;
      known = subst (λ r. IsPrefix (known_items a) (r ++ known_items b)) part known;
      allowed = subst (Allowed (λ past block. BeginRecords (past ++ block ∷ [])) (received a)) part allowed;
    }
