-- What rows have gathered when bins double, and when there is one sample or one row more.
use Rattle.std.proofs.Common.{◌≡◌, ◌≢◌, ℕ, zero, suc, ◌+◌, ◌-◌, ◌*◌, ◌/◌, ◌%◌, ◌^◌, ◌<◌, ◌≤◌, min, max, Bool, true, false, nat_eq, if◌then◌else◌, List, [], ◌∷◌, ◌++◌, length, get_or, set, map, take, drop, Some, refl, sym, ap, ◌∙◌, ◌⊎◌, inl, inr, arith, length-append}
use Rattle.std.specs.Prelude.{slice_get}
use Rattle.std.proofs.Math.Nat.{div-div-eq-div-mul}
use Rattle.std.proofs.lemmas.Bool.{cases_eq}
use Rattle.std.proofs.lemmas.Bool.Decides.{nat_tests}
use Rattle.std.proofs.lemmas.List.{get_or-replicate, get_or-set_other, get_or-set_same, length-map, length-replicate, length-set, take_at}
use Rattle.sample_picture.specs.declared.row.Row.{Row}
use Rattle.sample_picture.specs.declared.mark.Mark.{Mark}
use Rattle.sample_picture.specs.declared.mark.Mark.TheVariants.{Empty}
use Rattle.sample_picture.specs.Marks.{Seen, mark_at, mark_of, with_mark}
use Rattle.sample_picture.specs.Scale.{IsFine, IsNear}
use Rattle.sample_picture.specs.Shown.{Gathered}
use Rattle.sample_picture.specs.Gathered.{AreRowsOf, Given, IsPictureOf, IsRowOf, has_slot, overloads_of, samples_of}
use Rattle.sample_picture.specs.Inner.{AreWithin, doubled_row, fresh_row, given_at, name_of, noted, one_more, with_row}
use Rattle.sample_picture.proofs.GivenLemmas.{between_of, none_of, real_more, within_all}
use Rattle.sample_picture.proofs.MarkLemmas.{Between}
use Rattle.sample_picture.proofs.MergeLemmas.{doubled_marks, in_order, length-merged}

-- a row whose bins have twice as many places has gathered what it had
doubled : (row : Row) (width low high count : ℕ) (seen : List Seen)
    → 0 < width → Between low high seen → count ≤ 1024 → high / width < low / width + 1024 → high / width < low / width + count
    → IsRowOf width row seen → IsRowOf (width * 2) (doubled_row (low / width) count row) seen
doubled row width low high count seen pos in_range few near all h = record {
  samples = h.samples;
  overloads = h.overloads;
  first = h.first;
  last = h.last;
  slots = length-merged row.bins (low / width) count;
  bins = doubled_marks row.bins width low high count seen pos in_range few near all h.bins;
}

-- what stands at a place of a list that was mapped
mapped_at : (f : Row → Row) (rows : List Row) (k : ℕ) (row : Row) → slice_get (map f rows) k ≡ Some row
    → (before : Row) × (slice_get rows k ≡ Some before) × (row ≡ f before)
mapped_at f [] k row h = absurd (cc)
mapped_at f (r ∷ rows) zero row h = (r, refl, cc)
mapped_at f (r ∷ rows) (suc k) row h = mapped_at f rows k row h

pub doubled_rows : (rows : List Row) (width low high count : ℕ) (given : List Given)
    → 0 < width → AreWithin low high given → count ≤ 1024 → high / width < low / width + 1024 → high / width < low / width + count
    → AreRowsOf width rows given → AreRowsOf (width * 2) (map (doubled_row (low / width) count) rows) given
doubled_rows rows width low high count given pos in_range few near all h k row at =
    let found = mapped_at (doubled_row (low / width) count) rows k row at in
    rw found.2 (doubled found.0 width low high count (samples_of k given) pos (between_of low high k given in_range) few near all (h k found.0 found.1))

-- the names of rows stay
pub names_of_doubled : (from count : ℕ) (rows : List Row) → map name_of (map (doubled_row from count) rows) ≡ map name_of rows
names_of_doubled from count [] = refl
names_of_doubled from count (r ∷ rows) = ap (λ ns. name_of r ∷ ns) (names_of_doubled from count rows)

pub names_of_noted : (rows : List Row) (k : ℕ) (row : Row) (slot at : ℕ) (overload : Bool)
    → slice_get rows k ≡ Some row → map name_of (set rows k (noted row slot at overload)) ≡ map name_of rows
names_of_noted [] k row slot at overload h = refl
names_of_noted (r ∷ rows) zero row slot at overload h =
    let is : r ≡ row = cc in
    ap (λ (x : Row). name_of x ∷ map name_of rows) (sym is)
names_of_noted (r ∷ rows) (suc k) row slot at overload h = ap (λ ns. name_of r ∷ ns) (names_of_noted rows k row slot at overload h)

-- a bound that is near enough stays so when bins double
pub near_doubled : (width low high : ℕ) → high / width < low / width + 1024 → high / (width * 2) < low / (width * 2) + 1024
near_doubled width low high h =
    rw (← div-div-eq-div-mul high width 2, ← div-div-eq-div-mul low width 2) (omega (arith, h))

-- bins as fine as can be, of more places or when they double
pub wider_is_fine : (width low high first last : ℕ) → first ≤ low → high ≤ last → IsFine width low high → IsFine width first last
wider_is_fine width low high first last l h fine more =
    let half : 0 < width / 2 = omega (arith, more) in
    let left = in_order (width / 2) first low low half l (omega arith) in
    let right = in_order (width / 2) high high last half (omega arith) h in
    let apart = fine more in
    omega (arith, apart, left.0, right.1)

pub doubled_is_fine : (width low high : ℕ) → low / width + 1024 ≤ high / width → IsFine (width * 2) low high
doubled_is_fine width low high apart more =
    let half : width * 2 / 2 ≡ width = omega arith in
    rw half apart

-- a total more
more_samples : (n : ℕ) → one_more (min n (2 ^ 64 - 1)) ≡ min (suc n) (2 ^ 64 - 1)
more_samples n = omega arith

one_more_total : (n : ℕ) → one_more (min n (2 ^ 64 - 1)) ≡ min (n + 1) (2 ^ 64 - 1)
one_more_total n = omega arith

more_overloads : (row : Row) (seen : List Seen) (overload : Bool) → row.overloads ≡ min (overloads_of seen) (2 ^ 64 - 1)
    → (if overload then one_more row.overloads else row.overloads) ≡ min (if overload then overloads_of seen + 1 else overloads_of seen) (2 ^ 64 - 1)
more_overloads row seen true h = ap one_more h ∙ one_more_total (overloads_of seen)
more_overloads row seen false h = h

same : (a b : ℕ) → a ≡ b → nat_eq a b ≡ true
same a b h = grind (arith, nat_tests)

other : (a b : ℕ) → a ≢ b → nat_eq a b ≡ false
other a b h = grind (arith, nat_tests)

-- a mark more at its slot
noted_bins : (bins : List Mark) (width slot place : ℕ) (mark : Bool) (seen : List Seen) → length bins ≡ 1024 → slot ≡ place / width % 1024
    → ((k : ℕ) → k < 1024 → get_or bins k Empty ≡ mark_at (has_slot width k) seen)
    → (k : ℕ) → k < 1024
    → get_or (set bins slot (with_mark (mark_of mark) (get_or bins slot Empty))) k Empty
    ≡ mark_at (has_slot width k) ((record { at = place; overload = mark }) ∷ seen)
noted_bins bins width slot place mark seen len is shows k small = elim (cases_eq k slot) [
  | inl here ↦
      let yes : nat_eq (place / width % 1024) k ≡ true = same (place / width % 1024) k (sym is ∙ sym here) in
      let inside : slot < length bins = omega (arith, len, here, small) in
      rw yes (ap (λ j. get_or (set bins slot (with_mark (mark_of mark) (get_or bins slot Empty))) j Empty) here
      ∙ get_or-set_same bins slot (with_mark (mark_of mark) (get_or bins slot Empty)) Empty inside
      ∙ ap (λ j. with_mark (mark_of mark) (get_or bins j Empty)) (sym here)
      ∙ ap (with_mark (mark_of mark)) (shows k small))
  | inr away ↦
      let no : nat_eq (place / width % 1024) k ≡ false = other (place / width % 1024) k (λ e. away (sym e ∙ sym is)) in
      rw no (get_or-set_other bins slot k (with_mark (mark_of mark) (get_or bins slot Empty)) Empty away ∙ shows k small)
]

-- a row with one more sample has gathered that too
noted_row : (row : Row) (width slot place : ℕ) (mark : Bool) (seen : List Seen) → slot ≡ place / width % 1024
    → IsRowOf width row seen → IsRowOf width (noted row slot place mark) ((record { at = place; overload = mark }) ∷ seen)
noted_row row width slot place mark seen is h = record {
  samples = ap one_more h.samples ∙ more_samples (length seen);
  overloads = more_overloads row seen mark h.overloads;
  first = ap (min place) h.first;
  last = ap (max place) h.last;
  slots = length-set row.bins slot _ ∙ h.slots;
  bins = noted_bins row.bins width slot place mark seen h.slots is h.bins;
}

-- what stands at a place once another place, or this one, was set
set_at : (xs : List Row) (i j : ℕ) (b c : Row) → slice_get (set xs i b) j ≡ Some c → ((j ≡ i) × (c ≡ b)) ⊎ ((j ≢ i) × (slice_get xs j ≡ Some c))
set_at [] zero j b c h = absurd (cc)
set_at [] (suc i) j b c h = absurd (cc)
set_at (x ∷ xs) zero zero b c h = inl (refl, cc)
set_at (x ∷ xs) zero (suc j) b c h = inr (λ e. absurd (omega (arith, e)), h)
set_at (x ∷ xs) (suc i) zero b c h = inr (λ e. absurd (omega (arith, e)), h)
set_at (x ∷ xs) (suc i) (suc j) b c h = elim (set_at xs i j b c h) [
  | inl is ↦ inl (ap suc is.0, is.1)
  | inr other ↦ inr (λ e. other.0 (omega (arith, e)), other.1)
]

pub noted_rows : (rows : List Row) (width number slot place : ℕ) (mark : Bool) (row : Row) (given : List Given)
    → slot ≡ place / width % 1024 → slice_get rows number ≡ Some row → AreRowsOf width rows given
    → AreRowsOf width (set rows number (noted row slot place mark)) (given_at number place mark ∷ given)
noted_rows rows width number slot place mark row given is there h k found at =
    elim (set_at rows number k (noted row slot place mark) found at) [
      | inl here ↦
          let yes : nat_eq number k ≡ true = same number k (sym here.0) in
          rw (yes, here.1) (noted_row row width slot place mark (samples_of k given) is (h k row (ap (slice_get rows) here.0 ∙ there)))
      | inr away ↦
          let no : nat_eq number k ≡ false = other number k (λ e. away.0 (sym e)) in
          rw no (h k found away.1)
    ]

-- a row of no sample has gathered none
fresh : (l c width : ℕ) → IsRowOf width (fresh_row l c) []
fresh l c width = record {
  samples = refl;
  overloads = refl;
  first = refl;
  last = refl;
  slots = length-replicate 1024 Empty;
  bins = λ slot small. get_or-replicate 1024 slot Empty Empty small;
}

-- what stands at a place of a list with one row more
pushed_at : (xs : List Row) (x : Row) (k : ℕ) (row : Row) → slice_get (xs ++ x ∷ []) k ≡ Some row
    → (slice_get xs k ≡ Some row) ⊎ ((length xs ≤ k) × (row ≡ x))
pushed_at [] x zero row h = inr (omega arith, cc)
pushed_at [] x (suc k) row h = absurd (cc)
pushed_at (y ∷ xs) x zero row h = inl h
pushed_at (y ∷ xs) x (suc k) row h = elim (pushed_at xs x k row h) [
  | inl there ↦ inl there
  | inr here ↦ inr (omega (arith, here.0), here.1)
]

-- a picture with one row more has gathered what it had
pub with_row_stands : (p : Gathered) (l c : ℕ) (given : List Given) → IsPictureOf p given → IsPictureOf (with_row l c p) given
with_row_stands p l c given h = record {
  real = real_more (length p.rows) (length (p.rows ++ fresh_row l c ∷ [])) given (omega (arith, length-append p.rows (fresh_row l c ∷ []))) h.real;
  first = h.first;
  last = h.last;
  positive = h.positive;
  near = h.near;
  fine = h.fine;
  rows = λ k row at. elim (pushed_at p.rows (fresh_row l c) k row at) [
    | inl there ↦ h.rows k row there
    | inr here ↦ rw (here.1, none_of (length p.rows) k given here.0 h.real) (fresh l c p.width)
  ];
}

-- what a table has that was written whole
pub written_rows : (new old : List Row) (count : ℕ) → length new ≡ count → take count (new ++ drop (length new) old) ≡ new
written_rows new old count len = take_at new (drop (length new) old) count len

-- a picture with one sample more has gathered that too
pub noted_stands : (p q : Gathered) (rows : List Row) (number slot place : ℕ) (mark : Bool) (row : Row) (given : List Given)
    → number < length p.rows → IsPictureOf p given
    → q.first ≡ min place p.first → q.last ≡ max place p.last → 0 < q.width → IsNear q.width q.first q.last → IsFine q.width q.first q.last
    → (AreWithin p.first p.last given → AreRowsOf p.width p.rows given → AreRowsOf q.width rows given)
    → map name_of rows ≡ map name_of p.rows
    → slot ≡ place / q.width % 1024 → slice_get rows number ≡ Some row
    → q.rows ≡ set rows number (noted row slot place mark)
    → IsPictureOf q (given_at number place mark ∷ given)
noted_stands p q rows number slot place mark row given real h first last pos near fine reach names is there new = record {
  real =
      let len : length q.rows ≡ length p.rows =
      ap length new ∙ length-set rows number (noted row slot place mark) ∙ sym (length-map rows name_of) ∙ ap length names ∙ length-map p.rows name_of in
      (omega (arith, len, real), real_more (length p.rows) (length q.rows) given (omega (arith, len)) h.real);
  first = first ∙ ap (min place) h.first;
  last = last ∙ ap (max place) h.last;
  positive = pos;
  near = near;
  fine = fine;
  rows = rw new (noted_rows rows q.width number slot place mark row given is there
      (reach (rw (h.first, h.last) (within_all given)) h.rows));
}
