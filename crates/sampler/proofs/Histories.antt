-- One event more: what a longer history adds to the due pairs, the decided pairs and the items.
use Rattle.std.proofs.Common.{◌≡◌, ℕ, zero, suc, ◌+◌, ◌<◌, ◌≤◌, Bool, false, List, [], ◌∷◌, ◌++◌, length, take, map, refl, sym, ap, ◌∙◌, append_assoc, arith, length-append}
use Rattle.std.specs.Prelude.{flat_map, zip, slice_get}
use Rattle.std.proofs.Math.ListN.{get_or-append}
use Rattle.std.proofs.lemmas.Grind.{flat_map-append}
use Rattle.std.proofs.lemmas.List.{take-append-le}
use Rattle.copy_plan.specs.Config.{ListPlan}
use Rattle.sampler.specs.History.{Event, Trigger, Start, Stop, Opening, due, due_at, pairs_at, with_past}
use Rattle.sampler.specs.Decisions.{decided, pending_of, overload_bit}
use Rattle.sampler.specs.Items.{items, items_at, sample, samples_from}

pub append_nil : {X : Type 0} (xs : List X) → xs ++ [] ≡ xs
append_nil [] = refl
append_nil (x ∷ xs) = ap (λ ys. x ∷ ys) (append_nil xs)

pub with_past-append : {X : Type 0} (past xs ys : List X) → with_past past (xs ++ ys) ≡ with_past past xs ++ with_past (past ++ xs) ys
unfolding with_past
with_past-append past [] ys = ap (λ p. with_past p ys) (sym (append_nil past))
with_past-append past (x ∷ xs) ys =
    ap (λ rest. (past, x) ∷ rest) (with_past-append (past ++ x ∷ []) xs ys ∙ ap (λ p. with_past (past ++ x ∷ []) xs ++ with_past p ys) (append_assoc past (x ∷ []) xs))

with_past-one : {X : Type 0} (past : List X) (x : X) → with_past past (x ∷ []) ≡ (past, x) ∷ []
unfolding with_past
with_past-one past x = refl

pub with_past-more : {X : Type 0} (h : List X) (e : X) → with_past [] (h ++ e ∷ []) ≡ with_past [] h ++ (h, e) ∷ []
with_past-more h e = with_past-append [] h (e ∷ []) ∙ ap (λ rest. with_past [] h ++ rest) (with_past-one h e)

module _ (o : Opening) where
  -- the pairs of an event come behind those before it
  pub due-more : (h : List Event) (e : Event) → due o (h ++ e ∷ []) ≡ due o h ++ pairs_at o (h, e)
  unfolding due
  due-more h e =
      ap (flat_map (pairs_at o)) (with_past-more h e)
      ∙ flat_map-append (pairs_at o) (with_past [] h) ((h, e) ∷ [])
      ∙ ap (λ rest. flat_map (pairs_at o) (with_past [] h) ++ rest) (append_nil (pairs_at o (h, e)))

  pub due-append : (a b : List Event) → due o (a ++ b) ≡ due o a ++ flat_map (pairs_at o) (with_past a b)
  unfolding due
  due-append a b = ap (flat_map (pairs_at o)) (with_past-append [] a b) ∙ flat_map-append (pairs_at o) (with_past [] a) (with_past a b)

pub length-map_of : {X Y : Type 0} (f : X → Y) (xs : List X) → length (map f xs) ≡ length xs
length-map_of f [] = refl
length-map_of f (x ∷ xs) = ap (λ n. suc n) (length-map_of f xs)

pub zip-append : {X Y : Type 0} (xs zs : List X) (ys ws : List Y) → length xs ≡ length ys → zip (xs ++ zs) (ys ++ ws) ≡ zip xs ys ++ zip zs ws
zip-append [] zs [] ws h = refl
zip-append [] zs (y ∷ ys) ws h = absurd (omega arith)
zip-append (x ∷ xs) zs [] ws h = absurd (omega arith)
zip-append (x ∷ xs) zs (y ∷ ys) ws h = ap (λ rest. (x, y) ∷ rest) (zip-append xs zs ys ws (omega arith))

first_pairs_of : (o : Opening) (past rest : List Event) (x : Event) → length (flat_map (pairs_at o) (with_past past (x ∷ rest))) ≡ length (due_at o past x) + length (flat_map (pairs_at o) (with_past (past ++ x ∷ []) rest))
unfolding with_past
first_pairs_of o past rest x =
    length-append (pairs_at o (past, x)) (flat_map (pairs_at o) (with_past (past ++ x ∷ []) rest))
    ∙ ap (λ n. n + length (flat_map (pairs_at o) (with_past (past ++ x ∷ []) rest))) (length-map_of (λ (plan : ListPlan). (length past, plan.list)) (due_at o past x))

pub length-zip_same : {X Y : Type 0} (xs : List X) (ys : List Y) → length ys ≡ length xs → length (zip xs ys) ≡ length xs
length-zip_same [] ys h = refl
length-zip_same (x ∷ xs) [] h = absurd (omega arith)
length-zip_same (x ∷ xs) (y ∷ ys) h = ap (λ n. suc n) (length-zip_same xs ys (omega arith))

pub slice_get-append_lt : {X : Type 0} (xs ys : List X) (k : ℕ) → k < length xs → slice_get (xs ++ ys) k ≡ slice_get xs k
slice_get-append_lt [] ys k h = absurd (omega arith)
slice_get-append_lt (x ∷ xs) ys zero h = refl
slice_get-append_lt (x ∷ xs) ys (suc k) h = slice_get-append_lt xs ys k (omega arith)

pub slice_get-behind : {X : Type 0} (xs ys : List X) (k : ℕ) → slice_get (xs ++ ys) (length xs + k) ≡ slice_get ys k
slice_get-behind [] ys k = ap (slice_get ys) (omega arith)
slice_get-behind (x ∷ xs) ys k =
    let e : suc (length xs) + k ≡ suc (length xs + k) = omega arith in
    ap (slice_get (x ∷ (xs ++ ys))) e ∙ slice_get-behind xs ys k

module _ (o : Opening) (h : List Event) (e : Event) (d ds : List Bool) (whole : length d ≡ length (due o h)) where
  -- the decided pairs of an event come behind those before it
  pub decided-more : decided o (h ++ e ∷ []) (d ++ ds) ≡ decided o h d ++ zip (pairs_at o (h, e)) ds
  decided-more = ap (λ pairs. zip pairs (d ++ ds)) (due-more o h e) ∙ zip-append (due o h) (pairs_at o (h, e)) d ds (sym whole)

  take_decided-more : (j : ℕ) → j ≤ length d → take j (decided o (h ++ e ∷ []) (d ++ ds)) ≡ take j (decided o h d)
  take_decided-more j below =
      ap (take j) decided-more
      ∙ take-append-le j (decided o h d) (zip (pairs_at o (h, e)) ds) (omega (arith, length-zip_same (due o h) d whole))

  -- an earlier pair has the same bit and sample
  pub overload_bit-more : (j : ℕ) → j < length d → overload_bit o (h ++ e ∷ []) (d ++ ds) j ≡ overload_bit o h d j
  unfolding overload_bit
  overload_bit-more j below =
      ap (λ pair. pending_of pair (take j (decided o (h ++ e ∷ []) (d ++ ds)))) (ap (λ pairs. slice_get pairs j) (due-more o h e) ∙ slice_get-append_lt (due o h) (pairs_at o (h, e)) j (omega (arith, below, whole)))
      ∙ ap (pending_of (slice_get (due o h) j)) (take_decided-more j (omega (arith, below)))

  pub sample-more : (j : ℕ) (plan : ListPlan) (image : List ℕ) (stamp : ℕ) → j < length d → sample o (h ++ e ∷ []) (d ++ ds) j plan image stamp ≡ sample o h d j plan image stamp
  unfolding sample
  sample-more j plan image stamp below = rw (take-append-le j d ds (omega (arith, below)), overload_bit-more j below) refl

  pub samples_from-more : (j : ℕ) (plans : List ListPlan) (image : List ℕ) (stamp : ℕ) → j + length plans ≤ length d → samples_from o (h ++ e ∷ []) (d ++ ds) j plans image stamp ≡ samples_from o h d j plans image stamp
  unfolding samples_from
  samples_from-more j [] image stamp below = refl
  samples_from-more j (plan ∷ plans) image stamp below =
      rw (get_or-append d ds false j (omega arith), sample-more j plan image stamp (omega arith), samples_from-more (j + 1) plans image stamp (omega arith)) refl

  -- an earlier event's pairs are among those decided
  pub due_below : (past rest : List Event) (x : Event) → h ≡ past ++ x ∷ rest → length (due o past) + length (due_at o past x) ≤ length d
  due_below past rest x is =
      let all : due o h ≡ due o past ++ flat_map (pairs_at o) (with_past past (x ∷ rest)) = ap (due o) is ∙ due-append o past (x ∷ rest) in
      let first : length (flat_map (pairs_at o) (with_past past (x ∷ rest))) ≡ length (due_at o past x) + length (flat_map (pairs_at o) (with_past (past ++ x ∷ []) rest)) = first_pairs_of o past rest x in
      omega (arith, ap length all, length-append (due o past) (flat_map (pairs_at o) (with_past past (x ∷ rest))), first, whole)

  -- the items of an earlier event are the same
  items_at-more : (past rest : List Event) (x : Event) → h ≡ past ++ x ∷ rest → items_at o (h ++ e ∷ []) (d ++ ds) (past, x) ≡ items_at o h d (past, x)
  unfolding items_at
  items_at-more past rest (Trigger image stamp) is = samples_from-more (length (due o past)) (due_at o past (Trigger image stamp)) image stamp (due_below past rest (Trigger image stamp) is)
  items_at-more past rest (Start l) is = refl
  items_at-more past rest (Stop l) is = refl

  items_of-more : (past rest : List Event) → h ≡ past ++ rest → flat_map (items_at o (h ++ e ∷ []) (d ++ ds)) (with_past past rest) ≡ flat_map (items_at o h d) (with_past past rest)
  unfolding with_past
  items_of-more past [] is = refl
  items_of-more past (x ∷ rest) is =
      let later : flat_map (items_at o (h ++ e ∷ []) (d ++ ds)) (with_past (past ++ x ∷ []) rest) ≡ flat_map (items_at o h d) (with_past (past ++ x ∷ []) rest) = items_of-more (past ++ x ∷ []) rest (is ∙ sym (append_assoc past (x ∷ []) rest)) in
      ap (λ xs. xs ++ flat_map (items_at o (h ++ e ∷ []) (d ++ ds)) (with_past (past ++ x ∷ []) rest)) (items_at-more past rest x is)
      ∙ ap (λ ys. items_at o h d (past, x) ++ ys) later

  -- the items of a longer history are those before and those of its last event
  pub items-more : items o (h ++ e ∷ []) (d ++ ds) ≡ items o h d ++ items_at o (h ++ e ∷ []) (d ++ ds) (h, e)
  unfolding items
  items-more =
      ap (flat_map (items_at o (h ++ e ∷ []) (d ++ ds))) (with_past-more h e)
      ∙ flat_map-append (items_at o (h ++ e ∷ []) (d ++ ds)) (with_past [] h) ((h, e) ∷ [])
      ∙ ap (λ xs. xs ++ (items_at o (h ++ e ∷ []) (d ++ ds) (h, e) ++ [])) (items_of-more [] h refl)
      ∙ ap (λ xs. flat_map (items_at o h d) (with_past [] h) ++ xs) (append_nil (items_at o (h ++ e ∷ []) (d ++ ds) (h, e)))
