-- One sample more of a list, and one tally of many.
use Rattle.std.proofs.Common.{◌≡◌, ◌≢◌, ℕ, zero, suc, ◌+◌, ◌-◌, ◌<◌, ◌==◌, Bool, true, false, if◌then◌else◌, List, [], ◌∷◌, ◌++◌, length, map, filter, slice_get, slice_set, replicate, Option, Some, None, ◌≤◌, ◌⊎◌, unwrap_or, refl, sym, ap, subst, ◌∙◌, arith, inl, inr, length-append}
use Rattle.std.proofs.lemmas.Bool.Decides.{eqb_tells, nat_tests}
use Rattle.std.proofs.lemmas.List.{append-nil, map-append, get_or-set_same, get_or-set_other, get_or-replicate, length-set, length-replicate}
use Rattle.std.proofs.lemmas.List.Elements.{filter-append, filter_map-append}
use Rattle.std.proofs.lemmas.Option.{slice_get-get_or}
use Rattle.daq_reader.specs.Lists.{given}
use Rattle.daq_reader.specs.Recorded.{Recorded}
use Rattle.sample_tables.specs.declared.tally.Tally.{Tally}
use Rattle.sample_tables.specs.Tallies.{AreTallies, first_of, overloaded, stamps, tally_of, tally_with}

first-push : (xs : List ℕ) (x : ℕ) → slice_get (xs ++ x ∷ []) 0 ≡ first_of (slice_get xs 0) (Some x)
first-push [] x = refl
first-push (y ∷ xs) x = refl

last-at : (xs : List ℕ) (x n : ℕ) → n ≡ length xs → slice_get (xs ++ x ∷ []) n ≡ Some x
last-at [] x zero h = refl
last-at [] x (suc n) h = absurd (omega (arith, h))
last-at (y ∷ xs) x zero h = absurd (omega (arith, h))
last-at (y ∷ xs) x (suc n) h = last-at xs x n (omega (arith, h))

last-push : (xs : List ℕ) (x : ℕ) → slice_get (xs ++ x ∷ []) (length (xs ++ x ∷ []) - 1) ≡ Some x
last-push xs x = last-at xs x (length (xs ++ x ∷ []) - 1) (omega (arith, length-append xs (x ∷ [])))

-- whether a sample is counted
one_overload : (r : Recorded) (b : Bool) → r.overload ≡ b → length (overloaded (r ∷ [])) ≡ (if r.overload then 1 else 0)
one_overload r true h = rw h refl
one_overload r false h = rw h refl

overloaded-push : (rs : List Recorded) (r : Recorded) → length (overloaded (rs ++ r ∷ [])) ≡ length (overloaded rs) + (if r.overload then 1 else 0)
overloaded-push rs r =
    ap length (filter-append (λ (q : Recorded). q.overload) rs (r ∷ []))
    ∙ length-append (overloaded rs) (overloaded (r ∷ []))
    ∙ ap (λ n. length (overloaded rs) + n) (one_overload r r.overload refl)

-- the ticks of one sample
abbrev ticks_of : Option ℕ → List ℕ
ticks_of None = []
ticks_of (Some x) = x ∷ []

one_stamp : (r : Recorded) (o : Option ℕ) → r.stamp ≡ o → stamps (r ∷ []) ≡ ticks_of o
one_stamp r None h = rw h refl
one_stamp r (Some x) h = rw h refl

stamps-push : (rs : List Recorded) (r : Recorded) → stamps (rs ++ r ∷ []) ≡ stamps rs ++ ticks_of r.stamp
stamps-push rs r = filter_map-append (λ (q : Recorded). q.stamp) rs (r ∷ []) ∙ ap (λ xs. stamps rs ++ xs) (one_stamp r r.stamp refl)

first_more : (xs : List ℕ) (o : Option ℕ) → first_of (slice_get xs 0) o ≡ slice_get (xs ++ ticks_of o) 0
first_more [] None = refl
first_more [] (Some x) = refl
first_more (y ∷ xs) o = refl

last_more : (xs : List ℕ) (o : Option ℕ) → first_of o (slice_get xs (length xs - 1)) ≡ slice_get (xs ++ ticks_of o) (length (xs ++ ticks_of o) - 1)
last_more xs None = ap (λ (ys : List ℕ). slice_get ys (length ys - 1)) (sym (append-nil xs))
last_more xs (Some x) = sym (last-push xs x)

same_tally : (a b c d : ℕ) (e f g h : Option ℕ) → a ≡ b → c ≡ d → e ≡ f → g ≡ h
    → ◌≡◌ {A = Tally} (record { samples = a; overloads = c; first = e; last = g }) (record { samples = b; overloads = d; first = f; last = h })
same_tally a b c d e f g h p q r s = rw (p, q, r, s) refl

pub tally-push : (rs : List Recorded) (r : Recorded) → tally_with (tally_of rs) r.overload r.stamp ≡ tally_of (rs ++ r ∷ [])
tally-push rs r =
    let one : ℕ = if r.overload then 1 else 0 in
    let size : length (rs ++ r ∷ []) ≡ length rs + 1 = length-append rs (r ∷ []) in
    let marked : length (overloaded (rs ++ r ∷ [])) ≡ length (overloaded rs) + one = overloaded-push rs r in
    same_tally _ _ _ _ _ _ _ _ (omega (arith, size)) (omega (arith, marked))
    (first_more (stamps rs) r.stamp ∙ ap (λ xs. slice_get xs 0) (sym (stamps-push rs r)))
    (last_more (stamps rs) r.stamp ∙ ap (λ xs. slice_get xs (length xs - 1)) (sym (stamps-push rs r)))

-- the samples of a list, with one more of this list, or of another
filter_more : {X : Type 0} (p : X → Bool) (xs : List X) (x : X) → filter p (xs ++ x ∷ []) ≡ filter p xs ++ (if p x then x ∷ [] else [])
filter_more p xs x = filter-append p xs (x ∷ [])

is_same : (a b : ℕ) → a ≡ b → (a == b) ≡ true
is_same a b h = grind (arith, nat_tests)

is_other : (a b : ℕ) → a ≢ b → (a == b) ≡ false
is_other a b h = grind (arith, nat_tests)

given_same : (i : ℕ) (gs : List (ℕ × Recorded)) (r : Recorded) → given i (gs ++ (i, r) ∷ []) ≡ given i gs ++ r ∷ []
given_same i gs r =
    let one : ℕ × Recorded = (i, r) in
    let second : ℕ × Recorded → Recorded = λ (s : ℕ × Recorded). s.1 in
    let kept : List (ℕ × Recorded) = filter (λ (s : ℕ × Recorded). s.0 == i) gs in
    ap (map second) (filter_more (λ (s : ℕ × Recorded). s.0 == i) gs one ∙ ap (λ v. kept ++ (if v then one ∷ [] else [])) (is_same i i refl))
    ∙ map-append second kept (one ∷ [])

given_other : (i j : ℕ) (gs : List (ℕ × Recorded)) (r : Recorded) → i ≢ j → given j (gs ++ (i, r) ∷ []) ≡ given j gs
given_other i j gs r h =
    let one : ℕ × Recorded = (i, r) in
    let kept : List (ℕ × Recorded) = filter (λ (s : ℕ × Recorded). s.0 == j) gs in
    ap (map (λ (s : ℕ × Recorded). s.1)) (filter_more (λ (s : ℕ × Recorded). s.0 == j) gs one ∙ ap (λ v. kept ++ (if v then one ∷ [] else [])) (is_other i j h) ∙ append-nil kept)

pub get_same : {X : Type 0} (xs : List X) (i : ℕ) (x : X) → i < length xs → slice_get (slice_set xs i x) i ≡ Some x
get_same xs i x h = slice_get-get_or (slice_set xs i x) i x (omega (arith, h, length-set xs i x)) ∙ ap Some (get_or-set_same xs i x x h)

-- the same at each place
pub all_same : {X : Type 0} (n i : ℕ) (x : X) → i < length (replicate n x) → slice_get (replicate n x) i ≡ Some x
all_same n i x below =
    let short : i < n = omega (arith, below, length-replicate n x) in
    slice_get-get_or (replicate n x) i x below ∙ ap Some (get_or-replicate n i x x short)

pub get_other : {X : Type 0} (xs : List X) (i j : ℕ) (x : X) → i < length xs → j < length xs → j ≢ i → slice_get (slice_set xs i x) j ≡ slice_get xs j
get_other xs i j x h k other =
    slice_get-get_or (slice_set xs i x) j x (omega (arith, k, length-set xs i x)) ∙ ap Some (get_or-set_other xs i j x x other)
    ∙ sym (slice_get-get_or xs j x k)

-- the tally of the list at the place has one sample more, and the others stay
pub tallies-push : (tallies : List Tally) (place : ℕ) (t u : Tally) (gs : List (ℕ × Recorded)) (r : Recorded) → AreTallies tallies gs → place < length tallies → slice_get tallies place ≡ Some t → u ≡ tally_with t r.overload r.stamp
    → AreTallies (slice_set tallies place u) (gs ++ (place, r) ∷ [])
tallies-push tallies place t u gs r all within at is i below = by_place (eqb_tells i place)
  where
    short : i < length tallies
    short = omega (arith, below, length-set tallies place u)

    some : Some t ≡ Some (tally_of (given place gs))
    some = sym at ∙ all place within

    was : t ≡ tally_of (given place gs)
    was = ap (λ o. unwrap_or o t) some

    now : u ≡ tally_of (given place (gs ++ (place, r) ∷ []))
    now = is ∙ ap (λ x. tally_with x r.overload r.stamp) was ∙ tally-push (given place gs) r ∙ ap tally_of (sym (given_same place gs r))

    by_place : (((i == place) ≡ true) × (i ≡ place)) ⊎ (((i == place) ≡ false) × (i ≢ place)) → slice_get (slice_set tallies place u) i ≡ Some (tally_of (given i (gs ++ (place, r) ∷ [])))
    by_place (inl v) = subst (λ k. slice_get (slice_set tallies place u) k ≡ Some (tally_of (given k (gs ++ (place, r) ∷ [])))) (sym v.1) (get_same tallies place u within ∙ ap Some now)
    by_place (inr v) = get_other tallies place i u within short v.1 ∙ all i short ∙ ap (λ rs. Some (tally_of rs)) (sym (given_other place i gs r (λ e. v.1 (sym e))))

-- a sample of no list that is counted
pub tallies-past : (tallies : List Tally) (place : ℕ) (gs : List (ℕ × Recorded)) (r : Recorded) → AreTallies tallies gs → length tallies ≤ place → AreTallies tallies (gs ++ (place, r) ∷ [])
tallies-past tallies place gs r all past i below = all i below ∙ ap (λ rs. Some (tally_of rs)) (sym (given_other place i gs r (λ e. absurd (omega (arith, past, below, e)))))

pub tallies-none : (n : ℕ) → AreTallies (replicate n (tally_of [])) []
tallies-none n i below =
    let short : i < n = omega (arith, below, length-replicate n (tally_of [])) in
    slice_get-get_or (replicate n (tally_of [])) i (tally_of []) below ∙ ap Some (get_or-replicate n i (tally_of []) (tally_of []) short)
