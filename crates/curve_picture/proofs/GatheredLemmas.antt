-- What rows have gathered when bins double, and when there is one value or one row more.
use Rattle.std.proofs.Common.{◌≡◌, ◌≢◌, ℕ, zero, suc, ◌+◌, ◌-◌, ◌*◌, ◌/◌, ◌%◌, ◌^◌, ◌<◌, ◌≤◌, min, max, Bool, true, false, nat_eq, List, [], ◌∷◌, ◌++◌, length, get_or, set, map, Some, refl, sym, ap, subst, ◌∙◌, ◌⊎◌, inl, inr, arith, length-append}
use Rattle.std.specs.Prelude.{slice_get}
use Rattle.std.proofs.lemmas.Bool.{cases_eq}
use Rattle.std.proofs.lemmas.Bool.Decides.{nat_tests}
use Rattle.std.proofs.lemmas.List.{get_or-replicate, get_or-set_other, get_or-set_same, length-replicate, length-set}
use Rattle.sample_picture.specs.Gathered.{has_slot}
use Rattle.sample_picture.specs.Scale.{IsFine, IsNear}
use Rattle.curve_picture.specs.declared.bin.Bin.{Bin}
use Rattle.curve_picture.specs.declared.point.Point.{Point}
use Rattle.curve_picture.specs.declared.row.Row.{Row}
use Rattle.curve_picture.specs.Shown.{Gathered}
use Rattle.curve_picture.specs.Curves.{AreRowsOf, IsBinOf, IsCurveOf, IsRowOf}
use Rattle.curve_picture.specs.Inner.{bin_of, doubled_row, empty_bin, fresh_row, joined_bin, noted, put_bin}
use Rattle.curve_picture.specs.Values.{AreWithin, Given, Seen, given_at, seen_of}
use Rattle.curve_picture.proofs.DrawnLemmas.{Between, noted_bin, unnoted_bin}
use Rattle.curve_picture.proofs.GivenLemmas.{between_of, none_of, real_more, within_all}
use Rattle.curve_picture.proofs.MergedLemmas.{doubled_bins, length-merged}

-- a row whose bins have twice as many places has gathered what it had
doubled : (row : Row) (width low high count : ℕ) (seen : List Seen)
    → 0 < width → Between low high seen → count ≤ 1024 → high / width < low / width + 1024 → high / width < low / width + count
    → IsRowOf width row seen → IsRowOf (width * 2) (doubled_row (low / width) count row) seen
doubled row width low high count seen pos in_range few near all h = record {
  values = h.values;
  first = h.first;
  last = h.last;
  slots = length-merged row.bins (low / width) count;
  bins = doubled_bins row.bins width low high count seen pos in_range few near all h.bins;
}

-- what stands at a place of a list that was mapped
mapped_at : (f : Row → Row) (rows : List Row) (k : ℕ) (row : Row) → slice_get (map f rows) k ≡ Some row
    → (before : Row) × (slice_get rows k ≡ Some before) × (row ≡ f before)
mapped_at f [] k row h = absurd (cc)
mapped_at f (r ∷ rows) zero row h = (r, refl, cc)
mapped_at f (r ∷ rows) (suc k) row h = mapped_at f rows k row h

pub doubled_rows : (rows : List Row) (width low high count : ℕ) (given : List Given)
    → 0 < width → AreWithin low high given → count ≤ 1024 → high / width < low / width + 1024 → high / width < low / width + count
    → AreRowsOf width rows given → AreRowsOf (width * 2) (map (doubled_row (low / width) count) rows) given
doubled_rows rows width low high count given pos in_range few near all h k row at =
    let found = mapped_at (doubled_row (low / width) count) rows k row at in
    rw found.2 (doubled found.0 width low high count (seen_of k given) pos (between_of low high k given in_range) few near all (h k found.0 found.1))

-- a total more
more_values : (n : ℕ) → min (min n (2 ^ 64 - 1) + 1) (2 ^ 64 - 1) ≡ min (suc n) (2 ^ 64 - 1)
more_values n = omega arith

same : (a b : ℕ) → a ≡ b → nat_eq a b ≡ true
same a b h = grind (arith, nat_tests)

other : (a b : ℕ) → a ≢ b → nat_eq a b ≡ false
other a b h = grind (arith, nat_tests)

-- a value more in the bin of its slot
noted_bins : (bins : List Bin) (width slot : ℕ) (p : Point) (mark : Bool) (seen : List Seen) → length bins ≡ 1024 → slot ≡ p.at / width % 1024
    → ((k : ℕ) → k < 1024 → IsBinOf (get_or bins k empty_bin) (has_slot width k) seen)
    → (k : ℕ) → k < 1024
    → IsBinOf (get_or (put_bin bins slot (bin_of p mark)) k empty_bin) (has_slot width k) ((record { at = p.at; value = p.value; lost = mark }) ∷ seen)
noted_bins bins width slot p mark seen len is shows k small =
    let s : Seen = record { at = p.at; value = p.value; lost = mark } in
    let put : List Bin = put_bin bins slot (bin_of p mark) in
    elim (cases_eq k slot) [
      | inl here ↦
          let yes : nat_eq (p.at / width % 1024) k ≡ true = same (p.at / width % 1024) k (sym is ∙ sym here) in
          let inside : slot < length bins = omega (arith, len, here, small) in
          let there : get_or put k empty_bin ≡ joined_bin (bin_of p mark) (get_or bins k empty_bin) =
          ap (λ j. get_or put j empty_bin) here
          ∙ get_or-set_same bins slot (joined_bin (bin_of p mark) (get_or bins slot empty_bin)) empty_bin inside
          ∙ ap (λ j. joined_bin (bin_of p mark) (get_or bins j empty_bin)) (sym here) in
          subst (λ (b : Bin). IsBinOf b (has_slot width k) (s ∷ seen)) (sym there)
          (noted_bin (get_or bins k empty_bin) (has_slot width k) p mark seen yes (shows k small))
      | inr away ↦
          let no : nat_eq (p.at / width % 1024) k ≡ false = other (p.at / width % 1024) k (λ e. away (sym e ∙ sym is)) in
          subst (λ (b : Bin). IsBinOf b (has_slot width k) (s ∷ seen))
          (sym (get_or-set_other bins slot k (joined_bin (bin_of p mark) (get_or bins slot empty_bin)) empty_bin away))
          (unnoted_bin (get_or bins k empty_bin) (has_slot width k) s seen no (shows k small))
    ]

-- a row with one more value has gathered that too
noted_row : (row : Row) (width slot : ℕ) (p : Point) (mark : Bool) (seen : List Seen) → slot ≡ p.at / width % 1024
    → IsRowOf width row seen → IsRowOf width (noted row slot p mark) ((record { at = p.at; value = p.value; lost = mark }) ∷ seen)
noted_row row width slot p mark seen is h = record {
  values = ap (λ n. min (n + 1) (2 ^ 64 - 1)) h.values ∙ more_values (length seen);
  first = ap (min p.at) h.first;
  last = ap (max p.at) h.last;
  slots = length-set row.bins slot _ ∙ h.slots;
  bins = noted_bins row.bins width slot p mark seen h.slots is h.bins;
}

-- what stands at a place once another place, or this one, was set
set_at : (xs : List Row) (i j : ℕ) (b c : Row) → slice_get (set xs i b) j ≡ Some c → ((j ≡ i) × (c ≡ b)) ⊎ ((j ≢ i) × (slice_get xs j ≡ Some c))
set_at [] zero j b c h = absurd (cc)
set_at [] (suc i) j b c h = absurd (cc)
set_at (x ∷ xs) zero zero b c h = inl (refl, cc)
set_at (x ∷ xs) zero (suc j) b c h = inr (λ e. absurd (omega (arith, e)), h)
set_at (x ∷ xs) (suc i) zero b c h = inr (λ e. absurd (omega (arith, e)), h)
set_at (x ∷ xs) (suc i) (suc j) b c h = elim (set_at xs i j b c h) [
  | inl is ↦ inl (ap suc is.0, is.1)
  | inr other ↦ inr (λ e. other.0 (omega (arith, e)), other.1)
]

noted_rows : (rows : List Row) (width number slot : ℕ) (p : Point) (mark : Bool) (row : Row) (given : List Given)
    → slot ≡ p.at / width % 1024 → slice_get rows number ≡ Some row → AreRowsOf width rows given
    → AreRowsOf width (set rows number (noted row slot p mark)) (given_at number p.at p.value mark ∷ given)
noted_rows rows width number slot p mark row given is there h k found at =
    elim (set_at rows number k (noted row slot p mark) found at) [
      | inl here ↦
          let yes : nat_eq number k ≡ true = same number k (sym here.0) in
          rw (yes, here.1) (noted_row row width slot p mark (seen_of k given) is (h k row (ap (slice_get rows) here.0 ∙ there)))
      | inr away ↦
          let no : nat_eq number k ≡ false = other number k (λ e. away.0 (sym e)) in
          rw no (h k found away.1)
    ]

-- a row of no value has gathered none
empty_bin_stands : (p : ℕ → Bool) → IsBinOf empty_bin p []
empty_bin_stands p = record { curve = refl; lost = refl }

fresh : (width : ℕ) → IsRowOf width fresh_row []
fresh width = record {
  values = refl;
  first = refl;
  last = refl;
  slots = length-replicate 1024 empty_bin;
  bins = λ slot small.
      subst (λ (b : Bin). IsBinOf b (has_slot width slot) []) (sym (get_or-replicate 1024 slot empty_bin empty_bin small)) (empty_bin_stands (has_slot width slot));
}

-- what stands at a place of a list with one more
pushed_at : (xs : List Row) (x : Row) (k : ℕ) (row : Row) → slice_get (xs ++ x ∷ []) k ≡ Some row
    → (slice_get xs k ≡ Some row) ⊎ ((length xs ≤ k) × (row ≡ x))
pushed_at [] x zero row h = inr (omega arith, cc)
pushed_at [] x (suc k) row h = absurd (cc)
pushed_at (y ∷ xs) x zero row h = inl h
pushed_at (y ∷ xs) x (suc k) row h = elim (pushed_at xs x k row h) [
  | inl there ↦ inl there
  | inr here ↦ inr (omega (arith, here.0), here.1)
]

-- a picture with one row more has gathered what it had
pub one_row_more : (p q : Gathered) (given : List Given) → length q.names ≡ length p.names + 1
    → q.rows ≡ p.rows ++ fresh_row ∷ [] → q.width ≡ p.width → q.first ≡ p.first → q.last ≡ p.last
    → IsCurveOf p given → IsCurveOf q given
one_row_more p q given names rows width first last h =
    let longer : length q.rows ≡ length p.rows + 1 = ap length rows ∙ length-append p.rows (fresh_row ∷ []) in record {
      named = names ∙ ap (λ n. n + 1) h.named ∙ sym longer;
      real = real_more (length p.rows) (length q.rows) given (omega (arith, longer)) h.real;
      first = first ∙ h.first;
      last = last ∙ h.last;
      positive = subst (λ (n : ℕ). 0 < n) (sym width) h.positive;
      near = rw (width, first, last) h.near;
      fine = rw (width, first, last) h.fine;
      rows = λ k row at. rw width (elim (pushed_at p.rows fresh_row k row (sym (ap (λ (xs : List Row). slice_get xs k) rows) ∙ at)) [
        | inl there ↦ h.rows k row there
        | inr here ↦ rw (here.1, none_of (length p.rows) k given here.0 h.real) (fresh p.width)
      ]);
    }

-- a picture with one value more has gathered that too
pub one_value_more : (p q : Gathered) (rows : List Row) (number slot : ℕ) (place : Point) (mark : Bool) (row : Row) (given : List Given)
    → number < length p.rows → IsCurveOf p given → q.names ≡ p.names
    → q.first ≡ min place.at p.first → q.last ≡ max place.at p.last → 0 < q.width → IsNear q.width q.first q.last → IsFine q.width q.first q.last
    → length rows ≡ length p.rows
    → (AreWithin p.first p.last given → AreRowsOf p.width p.rows given → AreRowsOf q.width rows given)
    → slot ≡ place.at / q.width % 1024 → slice_get rows number ≡ Some row
    → q.rows ≡ set rows number (noted row slot place mark)
    → IsCurveOf q (given_at number place.at place.value mark ∷ given)
one_value_more p q rows number slot place mark row given real h names first last pos near fine long reach is there new =
    let len : length q.rows ≡ length p.rows = ap length new ∙ length-set rows number (noted row slot place mark) ∙ long in record {
      named = ap length names ∙ h.named ∙ sym len;
      real = (omega (arith, len, real), real_more (length p.rows) (length q.rows) given (omega (arith, len)) h.real);
      first = first ∙ ap (min place.at) h.first;
      last = last ∙ ap (max place.at) h.last;
      positive = pos;
      near = near;
      fine = fine;
      rows = rw new (noted_rows rows q.width number slot place mark row given is there
          (reach (rw (h.first, h.last) (within_all given)) h.rows));
    }
