-- The rows of a table, placed one after another.
use Rattle.std.proofs.Common.{◌≡◌, ℕ, ◌+◌, ◌<◌, Bool, true, false, cond, List, [], ◌∷◌, ◌++◌, ◌∙◌}
use Rattle.std.proofs.Common.{Option, Some, None, ⊎_elim, refl, sym, ap, subst, length, arith}
use Rattle.std.proofs.Common.{get_or, take}
use Rattle.std.specs.Prelude.{◌&&◌, Contains, find, option_and_then, slice_get}
use Rattle.std.specs.Float.{Float, ◌≤ᶠ◌}
use Rattle.std.specs.Float.Ieee.{le}
use Rattle.std.specs.List.{AllByRecursion}
use Rattle.std.proofs.lemmas.Float.{T_from_true}
use Rattle.std.proofs.lemmas.List.{take_all, take_more}
use Rattle.std.proofs.lemmas.List.Elements.{Contains-append_left, Contains-append_right}
use Rattle.std.proofs.lemmas.List.Elements.{Contains-push}
use Rattle.std.proofs.lemmas.Option.{get_or_from_slice_get}
use Rattle.measured_values.specs.Physicals.{takes_in}
use Rattle.measured_values.specs.declared.text_table.TextRow.{TextRow}
use Rattle.mdf_blocks.specs.Placing.{HasPlaced, IsCrossed, IsOf, is_inside, or_else}
use Rattle.mdf_blocks.specs.TextPlaces.{ArePlaces, IsRising, SomeCross, is_within, row_by_range}
use Rattle.mdf_blocks.specs.declared.placed_text.PlacedText.{PlacedText}
use Rattle.mdf_blocks.proofs.PlaceLemmas.{and_true, find-append, true_of}

-- what is found among places is one of them
find_member : (w : PlacedText → Bool) (ps : List PlacedText) (p : PlacedText)
    → find w ps ≡ Some p → Contains ps p
find_member w [] p e = cc
find_member w (q ∷ ps) p e =
    elim (w q) as (λ b. cond b (Some q) (find w ps) ≡ Some p → Contains (q ∷ ps) p) [
      | true ↦ λ h. let same : q ≡ p = cc in
          subst (Contains (q ∷ ps)) same
          (Contains-append_left (q ∷ []) ps q (Contains-push [] q))
      | false ↦ λ h. Contains-append_right (q ∷ []) ps p (find_member w ps p h)
    ] e

-- a function that gives something of what is found first
and_then_or_else : {P R : Type 0} (f : P → Option R) (a b : Option P)
    → ((p : P) → a ≡ Some p → (r : R) × (f p ≡ Some r))
    → option_and_then f (or_else a b) ≡ or_else (option_and_then f a) (option_and_then f b)
and_then_or_else f None b gives = refl
and_then_or_else f (Some p) b gives =
    let it = gives p refl in it.1 ∙ sym (ap (λ o. or_else o (option_and_then f b)) it.1)

-- the places of the first rows
pub record ArePlaced (rows : List TextRow) (ps : List PlacedText) (i : ℕ) : Type 0 where
  pub rising : IsRising ps
  pub members : (q : PlacedText) → Contains ps q → (q.row < i) × IsOf rows q
  pub finds : (x : Float) → row_by_range rows ps x ≡ find (takes_in x) (take i rows)

-- the row of a text, if a number is one of its
alone : (rows : List TextRow) (t : PlacedText) (x : Float) (is : IsOf rows t)
    → option_and_then (λ (p : PlacedText). slice_get rows p.row) (find (is_within x) (t ∷ []))
    ≡ find (takes_in x) (is.row ∷ [])
alone rows t x is =
    let same : is_within x t ≡ takes_in x is.row =
    ap (λ a. le a x && le x t.greatest) is.least
    ∙ ap (λ b. le is.row.least x && le x b) is.greatest in
    ap (λ b. option_and_then (λ (p : PlacedText). slice_get rows p.row) (cond b (Some t) None)) same
    ∙ (elim (takes_in x is.row) as (λ b.
    option_and_then (λ (p : PlacedText). slice_get rows p.row) (cond b (Some t) None)
    ≡ cond b (Some is.row) None) [ true ↦ is.there | false ↦ refl ])

-- one row more
pub placed_more : (rows : List TextRow) (old new : List PlacedText) (t : PlacedText) (i : ℕ)
    → i < length rows → ArePlaced rows old i → IsOf rows t → t.row ≡ i → HasPlaced old t new
    → ArePlaced rows new (i + 1)
placed_more rows old new t i within before is row_is placed =
    let f : PlacedText → Option TextRow = λ p. slice_get rows p.row in
    let nth : get_or rows i is.row ≡ is.row =
    get_or_from_slice_get rows i is.row is.row (ap (slice_get rows) (sym row_is) ∙ is.there) in
    record {
      rising = placed.rising;
      members = λ q there.
          ⊎_elim
          (λ (h : Contains old q).
          let was = before.members q h in (omega (arith, was.0), was.1))
          (λ (e : q ≡ t).
          subst (λ (p : PlacedText). (p.row < i + 1) × IsOf rows p) (sym e)
          (omega (arith, row_is), is))
          (placed.members q there);
      finds = λ x.
          ap (option_and_then f) (placed.finds x)
          ∙ and_then_or_else f (find (is_within x) old) (find (is_within x) (t ∷ []))
          (λ p e. let it = (before.members p (find_member (is_within x) old p e)).1 in
          (it.row, it.there))
          ∙ ap (λ o. or_else o (option_and_then f (find (is_within x) (t ∷ [])))) (before.finds x)
          ∙ ap (λ o. or_else (find (takes_in x) (take i rows)) o) (alone rows t x is)
          ∙ sym (find-append (takes_in x) (take i rows) (is.row ∷ []))
          ∙ sym (ap (find (takes_in x)) (take_more rows i is.row within
          ∙ ap (λ r. take i rows ++ r ∷ []) nth));
    }

-- no row yet
pub placed_none : (rows : List TextRow) → ArePlaced rows [] 0
placed_none rows = record {
  rising = tt;
  members = λ q there. absurd (omega (arith, there.1));
  finds = λ x. refl;
}

all_rows : (rows : List TextRow) (n : ℕ) (ps : List PlacedText)
    → ((q : PlacedText) → Contains ps q → q.row < n) → AllByRecursion (λ p. p.row < n) ps
all_rows rows n [] each = tt
all_rows rows n (p ∷ ps) each = (
  each p (Contains-append_left (p ∷ []) ps p (Contains-push [] p)),
  all_rows rows n ps (λ q there. each q (Contains-append_right (p ∷ []) ps q there)),
)

-- all rows
pub placed_all : (rows : List TextRow) (ps : List PlacedText) (i : ℕ) → i ≡ length rows
    → ArePlaced rows ps i → ArePlaces rows ps
placed_all rows ps i all placed = record {
  rising = placed.rising;
  within = all_rows rows (length rows) ps
      (λ q there. omega (arith, all, (placed.members q there).0));
  same = λ x. placed.finds x ∙ ap (find (takes_in x)) (take_all i rows (omega (arith, all)));
}

-- a row that crosses one before it
pub crossed_rows : (rows : List TextRow) (ps : List PlacedText) (t : PlacedText) (i : ℕ)
    → ArePlaced rows ps i → IsOf rows t → t.row ≡ i → IsCrossed ps t → SomeCross rows
crossed_rows rows ps t i placed is row_is crossed =
    let p : PlacedText = crossed.other in
    let was = placed.members p crossed.there in
    let of = was.1 in
    record {
      earlier = p.row;
      later = t.row;
      first = of.row;
      second = is.row;
      order = omega (arith, was.0, row_is);
      is_first = of.there;
      is_second = is.there;
      crosses = record {
        low = subst (λ (b : Float). is.row.least ≤ᶠ b) of.greatest
            (subst (λ (a : Float). a ≤ᶠ p.greatest) is.least
            (T_from_true (le t.least p.greatest) crossed.low));
        high = subst (λ (b : Float). of.row.least ≤ᶠ b) is.greatest
            (subst (λ (a : Float). a ≤ᶠ t.greatest) of.least
            (T_from_true (le p.least t.greatest) crossed.high));
        beyond = λ h.
            let low : p.least ≤ᶠ t.least =
            subst (λ (a : Float). a ≤ᶠ t.least) (sym of.least)
            (subst (λ (b : Float). of.row.least ≤ᶠ b) (sym is.least) h.0) in
            let high : t.greatest ≤ᶠ p.greatest =
            subst (λ (a : Float). a ≤ᶠ p.greatest) (sym is.greatest)
            (subst (λ (b : Float). is.row.greatest ≤ᶠ b) (sym of.greatest) h.1) in
            let inside : is_inside t p ≡ true =
            and_true (le p.least t.least) (le t.greatest p.greatest)
            (true_of (le p.least t.least) low) (true_of (le t.greatest p.greatest) high) in
            cc;
      };
    }
