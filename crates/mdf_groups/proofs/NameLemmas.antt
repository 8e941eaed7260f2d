-- Names that differ.
use Rattle.std.proofs.Common.{◌≡◌, ◌≢◌, ℕ, zero, suc, ◌+◌, ◌<◌, ◌≤◌, Bool, true, false, cond}
use Rattle.std.proofs.Common.{List, [], ◌∷◌, ◌++◌, length, take, get_or, Option, Some, refl}
use Rattle.std.proofs.Common.{sym, ap, subst, ◌∙◌, arith, ⊎_elim, length-append}
use Rattle.std.specs.Prelude.{◌||◌, MatchBool, is_some}
use Rattle.std.specs.Str.{bytes_eq}
use Rattle.std.proofs.lemmas.Bool.{cases_lt, false≢true}
use Rattle.std.proofs.lemmas.List.{get_or_append_left, get_or_push, take-append-le, take_at}
use Rattle.std.proofs.lemmas.List.Quantifiers.{all_pairs_push}
use Rattle.std.proofs.lemmas.Slice.Eq.{bytes_eq-Decides}
use Rattle.mdf_groups.specs.Names.{AreNames, IsFresh, IsNameFor, is_among}

same_bytes : (n : List ℕ) → bytes_eq n n ≡ true
same_bytes n = (bytes_eq-Decides n n).1 refl

or_true : (a : Bool) → (a || true) ≡ true
or_true true = refl
or_true false = refl

or_false : (a : Bool) → (a || false) ≡ a
or_false true = refl
or_false false = refl

flipped : (a b : List ℕ) → bytes_eq a b ≡ bytes_eq b a
flipped a b = by (bytes_eq a b) (bytes_eq b a) refl refl
  where
    by : (x y : Bool) → bytes_eq a b ≡ x → bytes_eq b a ≡ y → x ≡ y
    by true true p q = refl
    by false false p q = refl
    by true false p q =
        absurd (false≢true (sym q ∙ (bytes_eq-Decides b a).1 (sym ((bytes_eq-Decides a b).0 p))))
    by false true p q =
        absurd (false≢true (sym p ∙ (bytes_eq-Decides a b).1 (sym ((bytes_eq-Decides b a).0 q))))

noted : (b : Bool) (old : Option ℕ) (n : ℕ)
    → is_some (cond b (Some n) old) ≡ (is_some old || b)
noted true old n = sym (or_true (is_some old))
noted false old n = sym (or_false (is_some old))

-- a key that was set is taken
pub takes_key : (old new : List ℕ → Option ℕ) (key name : List ℕ) (n : ℕ) → key ≡ name
    → ((q : List ℕ) → new q ≡ cond (bytes_eq key q) (Some n) (old q))
    → (q : List ℕ) → is_some (new q) ≡ (is_some (old q) || bytes_eq q name)
takes_key old new key name n is sets q =
    ap is_some (sets q) ∙ noted (bytes_eq key q) (old q) n
    ∙ ap (λ b. is_some (old q) || b) (flipped key q ∙ ap (bytes_eq q) is)

-- a name that was taken already, and then another
pub takes_both : (old mid new : List ℕ → Bool) (wanted name : List ℕ) → old wanted ≡ true
    → ((q : List ℕ) → mid q ≡ (old q || bytes_eq q wanted))
    → ((q : List ℕ) → new q ≡ (mid q || bytes_eq q name))
    → (q : List ℕ) → new q ≡ (old q || bytes_eq q name)
takes_both old mid new wanted name there first then q =
    then q ∙ ap (λ b. b || bytes_eq q name) (first q ∙ by (bytes_eq q wanted) refl)
  where
    by : (b : Bool) → bytes_eq q wanted ≡ b → (old q || b) ≡ old q
    by true e = or_true (old q)
        ∙ sym (ap old ((bytes_eq-Decides q wanted).0 e) ∙ there)
    by false e = or_false (old q)

among_push : (names : List (List ℕ)) (n q : List ℕ)
    → is_among (names ++ n ∷ []) q ≡ (is_among names q || bytes_eq q n)
among_push [] n q = or_false (bytes_eq q n)
among_push (m ∷ names) n q =
    by (bytes_eq q m) (is_among (names ++ n ∷ []) q) (is_among names q) (among_push names n q)
  where
    by : (b x y : Bool) → x ≡ (y || bytes_eq q n) → (b || x) ≡ ((b || y) || bytes_eq q n)
    by true x y e = refl
    by false x y e = e

-- what is taken stays in step with the names
pub taken_more : (old new : List ℕ → Bool) (names : List (List ℕ)) (n : List ℕ)
    → ((q : List ℕ) → old q ≡ is_among names q)
    → ((q : List ℕ) → new q ≡ (old q || bytes_eq q n))
    → (q : List ℕ) → new q ≡ is_among (names ++ n ∷ []) q
taken_more old new names n before takes q =
    takes q ∙ ap (λ b. b || bytes_eq q n) (before q) ∙ sym (among_push names n q)

among_apart : (names : List (List ℕ)) (n : List ℕ) → is_among names n ≡ false → (k : ℕ)
    (d : List ℕ) → k < length names → get_or names k d ≢ n
among_apart [] n none k d within = absurd (omega (arith, within))
among_apart (m ∷ names) n none zero d within = λ e.
    by (bytes_eq n m) ((bytes_eq-Decides n m).1 (sym e)) none
  where
    by : (b : Bool) → b ≡ true → (b || is_among names n) ≡ false → ⊥
    by true p q = false≢true (sym q)
    by false p q = false≢true p
among_apart (m ∷ names) n none (suc k) d within =
    among_apart names n (by (bytes_eq n m) none) k d (omega (arith, within))
  where
    by : (b : Bool) → (b || is_among names n) ≡ false → is_among names n ≡ false
    by true q = absurd (false≢true (sym q))
    by false q = q

-- a name is none of those that are taken
fresh_name : (taken : List ℕ → Bool) (w n : List ℕ) → IsNameFor taken w n → taken n ≡ false
fresh_name taken w n is = by (taken w) refl is
  where
    by : (b : Bool) → taken w ≡ b → MatchBool b (IsFresh taken w n) (n ≡ w) → taken n ≡ false
    by true e fresh = fresh.0
    by false e same = ap taken same ∙ e

same_taken : (old new : List ℕ → Bool) (w n : List ℕ) → ((q : List ℕ) → old q ≡ new q)
    → IsNameFor old w n → IsNameFor new w n
same_taken old new w n same is =
    subst (λ (b : Bool). MatchBool b (IsFresh new w n) (n ≡ w)) (same w) (by (old w) is)
  where
    by : (b : Bool) → MatchBool b (IsFresh old w n) (n ≡ w) → MatchBool b (IsFresh new w n) (n ≡ w)
    by true fresh = (sym (same n) ∙ fresh.0, fresh.1)
    by false e = e

-- no names yet
pub no_names : AreNames [] []
no_names = record {
  count = refl;
  differ = λ i j d low within. absurd (omega (arith, within));
  each = λ i within. absurd (omega (arith, within));
}

-- the names before a place stay when one more stands behind them
name_stays : (wanted names : List (List ℕ)) (w n : List ℕ) (i : ℕ) → AreNames wanted names
    → i < length wanted
    → IsNameFor (is_among (take i (names ++ n ∷ []))) (get_or (wanted ++ w ∷ []) i [])
    (get_or (names ++ n ∷ []) i [])
name_stays wanted names w n i are within =
    let inside : i < length names = omega (arith, within, are.count) in
    let low : i ≤ length names = omega (arith, inside) in
    rw (
      take-append-le i names (n ∷ []) low,
      get_or_append_left wanted (w ∷ []) [] i within,
      get_or_append_left names (n ∷ []) [] i inside,
    ) (are.each i within)

name_last : (wanted names : List (List ℕ)) (w n : List ℕ) (i : ℕ) → i ≡ length wanted
    → i ≡ length names → IsNameFor (is_among names) w n
    → IsNameFor (is_among (take i (names ++ n ∷ []))) (get_or (wanted ++ w ∷ []) i [])
    (get_or (names ++ n ∷ []) i [])
name_last wanted names w n i at_wanted at_names here =
    rw (
      take_at names (n ∷ []) i (sym at_names),
      get_or_push wanted w [] i (sym at_wanted),
      get_or_push names n [] i (sym at_names),
    ) here

-- one name more
pub names_more : (wanted names : List (List ℕ)) (w n : List ℕ) (taken : List ℕ → Bool)
    → AreNames wanted names → ((q : List ℕ) → taken q ≡ is_among names q) → IsNameFor taken w n
    → AreNames (wanted ++ w ∷ []) (names ++ n ∷ [])
names_more wanted names w n taken are before is =
    let fresh : is_among names n ≡ false = sym (before n) ∙ fresh_name taken w n is in
    let here : IsNameFor (is_among names) w n =
    same_taken taken (is_among names) w n before is in
    let longer : length (wanted ++ w ∷ []) ≡ length wanted + 1 =
    omega (arith, length-append wanted (w ∷ [])) in
    record {
      count = omega (arith, are.count, longer, length-append names (n ∷ []));
      differ = all_pairs_push (λ a b. a ≢ b) names n are.differ (among_apart names n fresh);
      each = λ i within. ⊎_elim (λ (h : i < length wanted). name_stays wanted names w n i are h)
          (λ (h : length wanted ≤ i).
          name_last wanted names w n i (omega (arith, h, within, longer))
          (omega (arith, h, within, longer, are.count)) here)
          (cases_lt i (length wanted));
    }

-- a loop's step: one wanted name, and its own
pub names_step : (wanted wanted2 names names2 : List (List ℕ)) (w n : List ℕ)
    (old new : List ℕ → Bool) → wanted2 ≡ wanted ++ w ∷ [] → names2 ≡ names ++ n ∷ []
    → AreNames wanted names → ((q : List ℕ) → old q ≡ is_among names q) → IsNameFor old w n
    → ((q : List ℕ) → new q ≡ (old q || bytes_eq q n))
    → AreNames wanted2 names2 × ((q : List ℕ) → new q ≡ is_among names2 q)
names_step wanted wanted2 names names2 w n old new more longer are before is takes =
    rw (more, longer) (
      names_more wanted names w n old are before is,
      taken_more old new names n before takes,
    )
