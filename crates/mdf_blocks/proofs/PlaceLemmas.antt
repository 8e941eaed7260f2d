-- Texts in their places.
use Rattle.std.proofs.Common.{◌≡◌, ◌⊎◌, ℕ, ◌<◌, ◌≤◌, Bool, true, false, cond, List, [], ◌∷◌, ◌++◌}
use Rattle.std.proofs.Common.{◌∙◌}
use Rattle.std.proofs.Common.{Option, Some, None, T, inl, inr, ⊎_elim, refl, sym, ap, subst, length}
use Rattle.std.proofs.Common.{arith}
use Rattle.std.proofs.Common.{append-nil, drop, drop-cons, get_or, suc, take, take-append-drop}
use Rattle.std.proofs.Common.{zero}
use Rattle.std.proofs.lemmas.List.{take_all}
use Rattle.std.proofs.lemmas.Option.{slice_get-get_or}
use Rattle.std.specs.Prelude.{◌&&◌, Contains, find}
use Rattle.std.specs.Float.{Float, NotNan, ◌<ᶠ◌, ◌≤ᶠ◌}
use Rattle.std.specs.Float.Ieee.{le}
use Rattle.std.specs.List.{AllByRecursion}
use Rattle.std.proofs.lemmas.Bool.{false≢true}
use Rattle.std.proofs.lemmas.Float.{T_from_false, T_from_true, le_left, le_right, le_trans}
use Rattle.std.proofs.lemmas.Float.{le_of_lt, lt_irrefl, lt_of_le_of_lt, lt_of_lt_of_le}
use Rattle.std.proofs.lemmas.Float.{lt_of_not-le}
use Rattle.std.proofs.lemmas.List.Elements.{Contains-append_cases, Contains-append_left}
use Rattle.std.proofs.lemmas.List.Elements.{Contains-append_right, Contains-get_or}
use Rattle.mdf_blocks.specs.Placing.{HasPlaced, IsCrossed, IsFirstReached, is_inside, or_else}
use Rattle.mdf_blocks.specs.TextPlaces.{IsRising, is_within}
use Rattle.mdf_blocks.specs.declared.placed_text.PlacedText.{PlacedText}

pub true_of : (b : Bool) → T b → b ≡ true
true_of true h = refl
true_of false h = absurd h

pub false_of : (b : Bool) → (T b → ⊥) → b ≡ false
false_of true h = absurd (h tt)
false_of false h = refl

pub left_of : (a b : Bool) → (a && b) ≡ true → a ≡ true
left_of true b h = refl
left_of false b h = absurd (false≢true h)

pub right_of : (a b : Bool) → (a && b) ≡ true → b ≡ true
right_of true b h = h
right_of false b h = absurd (false≢true h)

and_false_left : (a b : Bool) → a ≡ false → (a && b) ≡ false
and_false_left a b h = ap (λ c. c && b) h

and_false_right : (a b : Bool) → b ≡ false → (a && b) ≡ false
and_false_right true b h = h
and_false_right false b h = refl

pub and_true : (a b : Bool) → a ≡ true → b ≡ true → (a && b) ≡ true
and_true true b p q = q
and_true false b p q = absurd (false≢true p)

pub not_T_false : (b : Bool) → b ≡ false → T b → ⊥
not_T_false true e h = absurd (false≢true (sym e))
not_T_false false e h = h

-- a number that is found among others, and behind them
pub find-append : {X : Type 0} (p : X → Bool) (xs ys : List X)
    → find p (xs ++ ys) ≡ or_else (find p xs) (find p ys)
find-append p [] ys = refl
find-append p (x ∷ xs) ys =
    elim (p x) as (λ b. cond b (Some x) (find p (xs ++ ys))
    ≡ or_else (cond b (Some x) (find p xs)) (find p ys)) [
      | true ↦ refl
      | false ↦ find-append p xs ys
    ]

or_else-none : {X : Type 0} (o : Option X) → or_else o None ≡ o
or_else-none None = refl
or_else-none (Some x) = refl

or_else_or_else : {X : Type 0} (a b : Option X) → or_else (or_else a b) None ≡ or_else a b
or_else_or_else a b = or_else-none (or_else a b)

-- a number from the least of a text on is in no place that ends below that
none_below : (least x : Float) (ps : List PlacedText)
    → AllByRecursion (λ p. le least p.greatest ≡ false) ps → least ≤ᶠ x
    → find (is_within x) ps ≡ None
none_below least x [] below from = refl
none_below least x (p ∷ ps) below from =
    let out : le x p.greatest ≡ false =
    false_of (le x p.greatest) (λ h. not_T_false (le least p.greatest) below.0
    (le_trans least x p.greatest from h)) in
    ap (λ b. cond b (Some p) (find (is_within x) ps))
    (and_false_right (le p.least x) (le x p.greatest) out)
    ∙ none_below least x ps below.1 from

-- a number up to the greatest of a text is in no place that begins above that
none_above : (greatest x : Float) (ps : List PlacedText)
    → AllByRecursion (λ p. greatest <ᶠ p.least) ps → x ≤ᶠ greatest
    → find (is_within x) ps ≡ None
none_above greatest x [] above upto = refl
none_above greatest x (p ∷ ps) above upto =
    let out : le p.least x ≡ false =
    false_of (le p.least x) (λ h. lt_irrefl p.least
    (lt_of_le_of_lt p.least greatest p.least (le_trans p.least x greatest h upto) above.0)) in
    ap (λ b. cond b (Some p) (find (is_within x) ps))
    (and_false_left (le p.least x) (le x p.greatest) out)
    ∙ none_above greatest x ps above.1 upto

-- what holds of all places, and of one more among them
all_between : (P : PlacedText → Type 0) (front : List PlacedText) (t : PlacedText)
    (back : List PlacedText) → AllByRecursion P (front ++ back) → P t
    → AllByRecursion P (front ++ t ∷ back)
all_between P [] t back all it = (it, all)
all_between P (p ∷ front) t back all it = (all.0, all_between P front t back all.1 it)

rising_behind : (front back : List PlacedText) → IsRising (front ++ back) → IsRising back
rising_behind [] back r = r
rising_behind (p ∷ front) back r = rising_behind front back r.2

-- between places that end below it and places that begin above it a text keeps them rising
rising_between : (front : List PlacedText) (t : PlacedText) (back : List PlacedText)
    → AllByRecursion (λ p. le t.least p.greatest ≡ false) front → t.least ≤ᶠ t.greatest
    → AllByRecursion (λ q. t.greatest <ᶠ q.least) back → IsRising (front ++ back)
    → IsRising (front ++ t ∷ back)
rising_between [] t back below some above r = (some, above, r)
rising_between (p ∷ front) t back below some above r =
    let under : p.greatest <ᶠ t.least =
    lt_of_not-le t.least p.greatest (le_left t.least t.greatest some)
    (le_right p.least p.greatest r.0) (T_from_false (le t.least p.greatest) below.0) in (
      r.0,
      all_between (λ q. p.greatest <ᶠ q.least) front t back r.1 under,
      rising_between front t back below.1 some above r.2,
    )

-- where the first of rising places begins above a number, all do
all_above : (greatest : Float) (p : PlacedText) (ps : List PlacedText) → greatest <ᶠ p.least
    → p.least ≤ᶠ p.greatest → AllByRecursion (λ q. p.greatest <ᶠ q.least) ps
    → AllByRecursion (λ q. greatest <ᶠ q.least) ps
all_above greatest p [] low some all = tt
all_above greatest p (q ∷ qs) low some all = (
  lt_of_lt_of_le greatest p.least q.least low
      (le_trans p.least p.greatest q.least some (le_of_lt p.greatest q.least all.0)),
  all_above greatest p qs low some all.1,
)

-- the first of the places behind begins above a text, if there is one
abbrev pub BeginsAbove : Float → List PlacedText → Type 0
BeginsAbove greatest [] = Unit {0}
BeginsAbove greatest (p ∷ ps) = le p.least greatest ≡ false

above_all : (greatest : Float) (back : List PlacedText) → NotNan greatest → IsRising back
    → BeginsAbove greatest back → AllByRecursion (λ q. greatest <ᶠ q.least) back
above_all greatest [] number r begins = tt
above_all greatest (p ∷ ps) number r begins =
    let low : greatest <ᶠ p.least =
    lt_of_not-le p.least greatest (le_left p.least p.greatest r.0) number
    (T_from_false (le p.least greatest) begins) in
    (low, all_above greatest p ps low r.0 r.1)

-- a number of the text, or none
within_or_not : (x : Float) (t : PlacedText)
    → ((t.least ≤ᶠ x) × (x ≤ᶠ t.greatest) × (is_within x t ≡ true)) ⊎ (is_within x t ≡ false)
within_or_not x t =
    elim (is_within x t) as (λ b. is_within x t ≡ b
    → ((t.least ≤ᶠ x) × (x ≤ᶠ t.greatest) × (is_within x t ≡ true)) ⊎ (is_within x t ≡ false)) [
      | true ↦ λ e. inl (
        T_from_true (le t.least x) (left_of (le t.least x) (le x t.greatest) e),
        T_from_true (le x t.greatest) (right_of (le t.least x) (le x t.greatest) e),
        e,
      )
      | false ↦ λ e. inr e
    ] refl

-- what one text alone gives
found_alone : (x : Float) (t : PlacedText) → is_within x t ≡ true
    → find (is_within x) (t ∷ []) ≡ Some t
found_alone x t e = ap (λ b. cond b (Some t) None) e

none_alone : (x : Float) (t : PlacedText) → is_within x t ≡ false
    → find (is_within x) (t ∷ []) ≡ None
none_alone x t e = ap (λ b. cond b (Some t) None) e

-- a text between the places below it and those above it
finds_between : (front : List PlacedText) (t : PlacedText) (back : List PlacedText) (x : Float)
    → AllByRecursion (λ p. le t.least p.greatest ≡ false) front
    → AllByRecursion (λ q. t.greatest <ᶠ q.least) back
    → find (is_within x) (front ++ t ∷ back)
    ≡ or_else (find (is_within x) (front ++ back)) (find (is_within x) (t ∷ []))
finds_between front t back x below above =
    let w : PlacedText → Bool = is_within x in
    let new = find-append w front (t ∷ back) in
    let old = find-append w front back in
    ⊎_elim
    (λ (h : (t.least ≤ᶠ x) × (x ≤ᶠ t.greatest) × (is_within x t ≡ true)).
    let none_front : find w front ≡ None = none_below t.least x front below h.0 in
    let none_back : find w back ≡ None = none_above t.greatest x back above h.1 in
    let old_none : find w (front ++ back) ≡ None =
    old ∙ ap (λ o. or_else o (find w back)) none_front ∙ none_back in
    new ∙ ap (λ o. or_else o (find w (t ∷ back))) none_front
    ∙ ap (λ b. cond b (Some t) (find w back)) h.2
    ∙ sym (found_alone x t h.2)
    ∙ sym (ap (λ o. or_else o (find w (t ∷ []))) old_none))
    (λ (e : is_within x t ≡ false).
    new ∙ ap (λ b. or_else (find w front) (cond b (Some t) (find w back))) e
    ∙ sym old
    ∙ sym (or_else-none (find w (front ++ back)))
    ∙ sym (ap (λ o. or_else (find w (front ++ back)) o) (none_alone x t e)))
    (within_or_not x t)

alone_of : (q t : PlacedText) (k : ℕ) → k < 1 → get_or (t ∷ []) k q ≡ q → q ≡ t
alone_of q t zero within e = sym e
alone_of q t (suc k) within e = absurd (omega (arith, within))

members_between : (front : List PlacedText) (t : PlacedText) (back : List PlacedText)
    (q : PlacedText) → Contains (front ++ t ∷ back) q → Contains (front ++ back) q ⊎ (q ≡ t)
members_between front t back q there =
    ⊎_elim (λ (h : Contains front q). inl (Contains-append_left front back q h))
    (λ (h : Contains (t ∷ back) q).
    ⊎_elim (λ (k : Contains (t ∷ []) q). inr (alone_of q t k.0 k.1 k.2))
    (λ (k : Contains back q). inl (Contains-append_right front back q k))
    (Contains-append_cases (t ∷ []) back q h))
    (Contains-append_cases front (t ∷ back) q there)

-- a text was placed between others
pub placed_between : (front : List PlacedText) (t : PlacedText) (back : List PlacedText)
    → AllByRecursion (λ p. le t.least p.greatest ≡ false) front → t.least ≤ᶠ t.greatest
    → BeginsAbove t.greatest back → IsRising (front ++ back)
    → HasPlaced (front ++ back) t (front ++ t ∷ back)
placed_between front t back below some begins rising =
    let above : AllByRecursion (λ q. t.greatest <ᶠ q.least) back =
    above_all t.greatest back (le_right t.least t.greatest some)
    (rising_behind front back rising) begins in
    record {
      rising = rising_between front t back below some above rising;
      finds = λ x. finds_between front t back x below above;
      members = λ q. members_between front t back q;
    }

-- a text that has no numbers of its own
pub placed_nowhere : (ps : List PlacedText) (t : PlacedText) → IsRising ps
    → ((x : Float)
    → find (is_within x) ps ≡ or_else (find (is_within x) ps) (find (is_within x) (t ∷ [])))
    → HasPlaced ps t ps
placed_nowhere ps t rising finds = record {
  rising = rising;
  finds = finds;
  members = λ q there. inl there;
}

-- it has none at all
pub empty_finds : (ps : List PlacedText) (t : PlacedText) (x : Float)
    → le t.least t.greatest ≡ false
    → find (is_within x) ps ≡ or_else (find (is_within x) ps) (find (is_within x) (t ∷ []))
empty_finds ps t x none =
    let w : PlacedText → Bool = is_within x in
    ⊎_elim
    (λ (h : (t.least ≤ᶠ x) × (x ≤ᶠ t.greatest) × (is_within x t ≡ true)).
    absurd (not_T_false (le t.least t.greatest) none (le_trans t.least x t.greatest h.0 h.1)))
    (λ (e : is_within x t ≡ false).
    sym (or_else-none (find w ps)) ∙ sym (ap (λ o. or_else (find w ps) o) (none_alone x t e)))
    (within_or_not x t)

-- its numbers are those of a place
pub inside_finds : (front : List PlacedText) (p : PlacedText) (back : List PlacedText)
    (t : PlacedText)
    (x : Float) → AllByRecursion (λ q. le t.least q.greatest ≡ false) front
    → is_inside t p ≡ true
    → find (is_within x) (front ++ p ∷ back)
    ≡ or_else (find (is_within x) (front ++ p ∷ back)) (find (is_within x) (t ∷ []))
inside_finds front p back t x below inside =
    let w : PlacedText → Bool = is_within x in
    let low = T_from_true (le p.least t.least)
    (left_of (le p.least t.least) (le t.greatest p.greatest) inside) in
    let high = T_from_true (le t.greatest p.greatest)
    (right_of (le p.least t.least) (le t.greatest p.greatest) inside) in
    ⊎_elim
    (λ (h : (t.least ≤ᶠ x) × (x ≤ᶠ t.greatest) × (is_within x t ≡ true)).
    let has : w p ≡ true =
    and_true (le p.least x) (le x p.greatest)
    (true_of (le p.least x) (le_trans p.least t.least x low h.0))
    (true_of (le x p.greatest) (le_trans x t.greatest p.greatest h.1 high)) in
    let found : find w (front ++ p ∷ back) ≡ Some p =
    find-append w front (p ∷ back)
    ∙ ap (λ o. or_else o (find w (p ∷ back))) (none_below t.least x front below h.0)
    ∙ ap (λ b. cond b (Some p) (find w back)) has in
    found ∙ sym (ap (λ o. or_else o (find w (t ∷ []))) found))
    (λ (e : is_within x t ≡ false).
    sym (or_else-none (find w (front ++ p ∷ back)))
    ∙ sym (ap (λ o. or_else (find w (front ++ p ∷ back)) o) (none_alone x t e)))
    (within_or_not x t)

-- it was placed in front of a place that begins above it
pub placed_before : (ps : List PlacedText) (t p : PlacedText) (at : ℕ) (d : PlacedText)
    → IsRising ps → IsFirstReached t.least ps at → t.least ≤ᶠ t.greatest → at < length ps
    → get_or ps at d ≡ p → le p.least t.greatest ≡ false
    → HasPlaced ps t (take at ps ++ t ∷ drop at ps)
placed_before ps t p at d rising first some within is begins =
    let parts = take-append-drop at ps in
    let behind : drop at ps ≡ p ∷ drop (suc at) ps =
    drop-cons ps at d within ∙ ap (λ x. x ∷ drop (suc at) ps) is in
    subst (λ (xs : List PlacedText). HasPlaced xs t (take at ps ++ t ∷ drop at ps)) parts
    (placed_between (take at ps) t (drop at ps) first.below some
    (subst (BeginsAbove t.greatest) (sym behind) begins) (subst IsRising (sym parts) rising))

-- it was placed behind all others
pub placed_last : (ps : List PlacedText) (t : PlacedText) (at : ℕ) → IsRising ps
    → IsFirstReached t.least ps at → t.least ≤ᶠ t.greatest → length ps ≤ at
    → HasPlaced ps t (ps ++ t ∷ [])
placed_last ps t at rising first some all =
    let none : ps ++ [] ≡ ps = append-nil ps in
    let whole : take at ps ≡ ps = take_all at ps all in
    subst (λ (xs : List PlacedText). HasPlaced xs t (ps ++ t ∷ [])) none
    (placed_between ps t []
    (subst (AllByRecursion (λ p. le t.least p.greatest ≡ false)) whole first.below)
    some tt (subst IsRising (sym none) rising))

-- all its numbers are those of a place
pub placed_inside : (ps : List PlacedText) (t p : PlacedText) (at : ℕ) (d : PlacedText)
    → IsRising ps → IsFirstReached t.least ps at → at < length ps → get_or ps at d ≡ p
    → is_inside t p ≡ true → HasPlaced ps t ps
placed_inside ps t p at d rising first within is inside =
    let behind : drop at ps ≡ p ∷ drop (suc at) ps =
    drop-cons ps at d within ∙ ap (λ x. x ∷ drop (suc at) ps) is in
    let parts : take at ps ++ p ∷ drop (suc at) ps ≡ ps =
    ap (λ xs. take at ps ++ xs) (sym behind) ∙ take-append-drop at ps in
    placed_nowhere ps t rising (λ x.
    subst (λ (xs : List PlacedText). find (is_within x) xs
    ≡ or_else (find (is_within x) xs) (find (is_within x) (t ∷ []))) parts
    (inside_finds (take at ps) p (drop (suc at) ps) t x first.below inside))

-- some of its numbers are those of a place, and others aren't
pub crossed_at : (ps : List PlacedText) (t p : PlacedText) (at : ℕ) (d : PlacedText)
    → IsFirstReached t.least ps at → at < length ps → get_or ps at d ≡ p
    → is_inside t p ≡ false → le p.least t.greatest ≡ true → IsCrossed ps t
crossed_at ps t p at d first within is beyond high = record {
  other = p;
  there = subst (Contains ps) is (Contains-get_or ps at d within);
  low = first.reached p (slice_get-get_or ps at d within ∙ ap Some is);
  high = high;
  beyond = beyond;
}
