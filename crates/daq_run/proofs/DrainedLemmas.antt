-- What a drain takes follows from what was left: its rounds take the first item of each ring that has one.
use Rattle.std.proofs.Common.{◌≡◌, ℕ, zero, suc, ◌+◌, inl, inr, cond, List, [], ◌∷◌, ◌++◌, drop, refl, sym, ap, ap₂, ◌∙◌, arith, append_assoc}
use Rattle.std.proofs.lemmas.Bool.Decides.{eqb_tells}
use Rattle.std.proofs.lemmas.List.{append_cancel_left}
use mathlib.Core.List.{IsPrefix}
use Rattle.xcp_base.specs.declared.item.Item.{Item}
use Rattle.transmitter.specs.Merge.{of_ring, taken_from}
use Rattle.transmitter.specs.Rounds.{round, rounds, without_first}

-- no first items, no round
none_round : (c : ℕ) (lists : List (List Item)) → ((k : ℕ) → of_ring lists k ≡ []) → round c lists ≡ []
none_round c [] none = refl
none_round c ([] ∷ lists) none = none_round (c + 1) lists (λ k. none (suc k))
none_round c ((x ∷ xs) ∷ lists) none = absurd (let first : x ∷ xs ≡ [] = none 0 in cc)

-- lists that are the same ring by ring have the same round
round_same : (c : ℕ) (xs ys : List (List Item)) → ((k : ℕ) → of_ring xs k ≡ of_ring ys k) → round c xs ≡ round c ys
round_same c [] ys same = sym (none_round c ys (λ k. sym (same k)))
round_same c (x ∷ xs) [] same = none_round c (x ∷ xs) same
round_same c ([] ∷ xs) ([] ∷ ys) same = round_same (c + 1) xs ys (λ k. same (suc k))
round_same c ([] ∷ xs) ((y ∷ more) ∷ ys) same = absurd (let first : ◌≡◌ {A = List Item} [] (y ∷ more) = same 0 in cc)
round_same c ((x ∷ rest) ∷ xs) ([] ∷ ys) same = absurd (let first : x ∷ rest ≡ [] = same 0 in cc)
round_same c ((x ∷ rest) ∷ xs) ((y ∷ more) ∷ ys) same =
    let first : x ∷ rest ≡ y ∷ more = same 0 in
    let one : x ≡ y = cc in
    ap₂ (λ z zs. (c, z) ∷ zs) one (round_same (c + 1) xs ys (λ k. same (suc k)))

of-without_first : (lists : List (List Item)) (k : ℕ) → of_ring (without_first lists) k ≡ drop 1 (of_ring lists k)
of-without_first [] k = refl
of-without_first (x ∷ lists) zero = refl
of-without_first (x ∷ lists) (suc k) = of-without_first lists k

rounds_same : (n : ℕ) (xs ys : List (List Item)) → ((k : ℕ) → of_ring xs k ≡ of_ring ys k) → rounds n xs ≡ rounds n ys
rounds_same zero xs ys same = refl
rounds_same (suc n) xs ys same =
    ap₂ (λ r rs. r ++ rs) (round_same 0 xs ys same)
    (rounds_same n (without_first xs) (without_first ys) (λ k. of-without_first xs k ∙ (ap (drop 1) (same k) ∙ sym (of-without_first ys k))))

-- more rounds begin with fewer
more_rounds : (n k : ℕ) (lists : List (List Item)) → IsPrefix (rounds n lists) (rounds (n + k) lists)
more_rounds zero k lists =
    let same : zero + k ≡ k = omega arith in
    (rounds k lists, ap (λ m. rounds m lists) (sym same))
more_rounds (suc n) k lists =
    let later = more_rounds n k (without_first lists) in
    let same : suc n + k ≡ suc (n + k) = omega arith in
    (later.0, append_assoc (round 0 lists) (rounds n (without_first lists)) later.0 ∙ (ap (λ zs. round 0 lists ++ zs) later.1 ∙ ap (λ m. rounds m lists) (sym same)))

prefix_on : (xs ys zs : List (ℕ × Item)) → IsPrefix xs ys → IsPrefix ys zs → IsPrefix xs zs
prefix_on xs ys zs a b = (a.0 ++ b.0, sym (append_assoc xs a.0 b.0) ∙ (ap (λ ws. ws ++ b.0) a.1 ∙ b.1))

-- something was taken from the ring of the first
some_taken : (p : ℕ × Item) (ps : List (ℕ × Item)) → taken_from p.0 (p ∷ ps) ≡ [] → ⊥
some_taken p ps none = elim (eqb_tells p.0 p.0) [
  | inl t ↦ (let first : p.1 ∷ taken_from p.0 ps ≡ [] = ap (λ b. cond b (p.1 ∷ taken_from p.0 ps) (taken_from p.0 ps)) (sym t.0) ∙ none in cc)
  | inr t ↦ t.1 refl
]

-- of two with one first item, the others are the same ring by ring
rest_same : (p : ℕ × Item) (c : ℕ) (ps qs : List (ℕ × Item)) → taken_from c (p ∷ ps) ≡ taken_from c (p ∷ qs) → taken_from c ps ≡ taken_from c qs
rest_same p c ps qs same = elim (eqb_tells p.0 c) [
  | inl t ↦
      (let both : p.1 ∷ taken_from c ps ≡ p.1 ∷ taken_from c qs = ap (λ b. cond b (p.1 ∷ taken_from c ps) (taken_from c ps)) (sym t.0) ∙ (same ∙ ap (λ b. cond b (p.1 ∷ taken_from c qs) (taken_from c qs)) t.0) in cc)
  | inr t ↦ ap (λ b. cond b (p.1 ∷ taken_from c ps) (taken_from c ps)) (sym t.0) ∙ (same ∙ ap (λ b. cond b (p.1 ∷ taken_from c qs) (taken_from c qs)) t.0)
]

-- two prefixes of one list that are the same ring by ring are the same
same_prefixes : (xs ys more others : List (ℕ × Item)) → xs ++ more ≡ ys ++ others → ((c : ℕ) → taken_from c xs ≡ taken_from c ys) → xs ≡ ys
same_prefixes [] [] more others is same = refl
same_prefixes [] (y ∷ ys) more others is same = absurd (some_taken y ys (sym (same y.0)))
same_prefixes (x ∷ xs) [] more others is same = absurd (some_taken x xs (same x.0))
same_prefixes (x ∷ xs) (y ∷ ys) more others is same =
    let both : x ∷ (xs ++ more) ≡ y ∷ (ys ++ others) = is in
    let one : x ≡ y = cc in
    let rest : xs ++ more ≡ ys ++ others = cc in
    ap₂ (λ z zs. z ∷ zs) one
    (same_prefixes xs ys more others rest (λ c. rest_same x c xs ys (same c ∙ ap (λ z. taken_from c (z ∷ ys)) (sym one))))

-- of what was sent to each ring, this was taken in rounds behind what was received before, and then all was received
pub record Empties (received sent : ℕ → List Item) (taken : List (ℕ × Item)) : Type 0 where
  pub left : List (List Item)
  pub leaves : (c : ℕ) → received c ++ of_ring left c ≡ sent c
  pub turns : ℕ
  pub in_rounds : IsPrefix taken (rounds turns left)
  pub all : (c : ℕ) → taken_from c taken ≡ of_ring left c

-- so it is determined
pub empties_same : (received others sent again : ℕ → List Item) (xs ys : List (ℕ × Item)) → ((c : ℕ) → received c ≡ others c) → ((c : ℕ) → sent c ≡ again c)
    → Empties received sent xs → Empties others again ys → xs ≡ ys
empties_same received others sent again xs ys same_received same_sent a b =
    let left : (c : ℕ) → of_ring a.left c ≡ of_ring b.left c = λ c.
    append_cancel_left (received c) (of_ring a.left c) (of_ring b.left c) (a.leaves c ∙ (same_sent c ∙ (sym (b.leaves c) ∙ ap (λ rs. rs ++ of_ring b.left c) (sym (same_received c))))) in
    let first = prefix_on xs (rounds a.turns a.left) (rounds (a.turns + b.turns) a.left) a.in_rounds (more_rounds a.turns b.turns a.left) in
    let swapped : b.turns + a.turns ≡ a.turns + b.turns = omega arith in
    let same : rounds (b.turns + a.turns) b.left ≡ rounds (a.turns + b.turns) a.left = ap (λ n. rounds n b.left) swapped ∙ rounds_same (a.turns + b.turns) b.left a.left (λ k. sym (left k)) in
    let second = prefix_on ys (rounds b.turns b.left) (rounds (b.turns + a.turns) b.left) b.in_rounds (more_rounds b.turns a.turns b.left) in
    same_prefixes xs ys first.0 second.0 (first.1 ∙ sym (second.1 ∙ same)) (λ c. a.all c ∙ (left c ∙ sym (b.all c)))
