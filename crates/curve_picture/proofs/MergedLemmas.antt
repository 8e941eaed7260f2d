-- Bins of twice as many places keep what the bins before kept.
use Rattle.std.proofs.Common.{◌≡◌, ℕ, zero, suc, ◌+◌, ◌*◌, ◌/◌, ◌%◌, ◌<◌, ◌≤◌, true, false, nat_eq, nat_lt, List, length, get_or, refl, sym, ap, subst, ◌∙◌, arith, inl, inr}
use Rattle.std.proofs.Math.Nat.{div-div-eq-div-mul}
use Rattle.std.proofs.lemmas.Bool.{cases_eq}
use Rattle.std.proofs.lemmas.List.{get_or-replicate, get_or-set_other, get_or-set_same, length-replicate, length-set}
use Rattle.sample_picture.specs.Gathered.{has_slot}
use Rattle.sample_picture.proofs.MergeLemmas.{added, before, elsewhere, in_order, less, not_less}
use Rattle.curve_picture.specs.declared.bin.Bin.{Bin}
use Rattle.curve_picture.specs.Curves.{IsBinOf}
use Rattle.curve_picture.specs.Inner.{empty_bin, joined_bin, merged, put_bin}
use Rattle.curve_picture.specs.Values.{Seen}
use Rattle.curve_picture.proofs.DrawnLemmas.{Between, no_bin, parted_bin, same_bin}

pub length-merged : (bins : List Bin) (from count : ℕ) → length (merged bins from count) ≡ 1024
length-merged bins from zero = length-replicate 1024 empty_bin
length-merged bins from (suc count) = length-set (merged bins from count) _ _ ∙ length-merged bins from count

-- each slot keeps the values that it kept, and those of each bin that it shows
abbrev AreBinsOf : List Bin → ℕ → List Seen → Type 0
AreBinsOf bins width seen =
    (slot : ℕ) → slot < 1024 → IsBinOf (get_or bins slot empty_bin) (has_slot width slot) seen

-- the bins so far keep the values that come before the next one
merged_so_far : (bins : List Bin) (width from low high : ℕ) (seen : List Seen)
    → Between low high seen
    → ((at : ℕ) → low ≤ at → at ≤ high → (from ≤ at / width) × (at / width < from + 1024))
    → AreBinsOf bins width seen
    → (count : ℕ) → count ≤ 1024 → (slot : ℕ) → slot < 1024
    → IsBinOf (get_or (merged bins from count) slot empty_bin) (before width (from + count) slot) seen
merged_so_far bins width from low high seen in_range near shows zero few slot small =
    subst (λ (b : Bin). IsBinOf b (before width (from + zero) slot) seen) (sym (get_or-replicate 1024 slot empty_bin empty_bin small))
    (no_bin (before width (from + zero) slot) low high seen in_range
    (λ at l h. let no : nat_lt (at / width) (from + zero) ≡ false = not_less (at / width) (from + zero) (omega (arith, (near at l h).0)) in rw no refl))
merged_so_far bins width from low high seen in_range near shows (suc count) few slot small =
    let t : ℕ = (from + count) / 2 % 1024 in
    let bin : Bin = get_or bins ((from + count) % 1024) empty_bin in
    let so_far : IsBinOf (get_or (merged bins from count) slot empty_bin) (before width (from + count) slot) seen =
    merged_so_far bins width from low high seen in_range near shows count (omega arith) slot small in
    let next : from + suc count ≡ from + count + 1 = omega arith in
    elim (cases_eq slot ((from + count) / 2 % 1024)) [
      | inl is ↦
          let inside : t < length (merged bins from count) = omega (arith, length-merged bins from count) in
          let fits : (from + count) % 1024 < 1024 = omega arith in
          let put : get_or (put_bin (merged bins from count) t bin) slot empty_bin ≡ joined_bin bin (get_or (merged bins from count) slot empty_bin) =
          ap (λ k. get_or (put_bin (merged bins from count) t bin) k empty_bin) is
          ∙ get_or-set_same (merged bins from count) t (joined_bin bin (get_or (merged bins from count) t empty_bin)) empty_bin inside
          ∙ ap (λ k. joined_bin bin (get_or (merged bins from count) k empty_bin)) (sym is) in
          subst (λ (b : Bin). IsBinOf b (before width (from + suc count) slot) seen) (sym put)
          (parted_bin bin (get_or (merged bins from count) slot empty_bin) (has_slot width ((from + count) % 1024)) (before width (from + count) slot) (before width (from + suc count) slot) low high seen in_range
          (λ at l h. rw (next, is) (added from (at / width) (from + count) (near at l h).0 (near at l h).1 (omega arith) (omega arith)))
          (shows ((from + count) % 1024) fits) so_far)
      | inr is ↦
          subst (λ (b : Bin). IsBinOf b (before width (from + suc count) slot) seen)
          (sym (get_or-set_other (merged bins from count) t slot (joined_bin bin (get_or (merged bins from count) t empty_bin)) empty_bin is))
          (same_bin (get_or (merged bins from count) slot empty_bin) (before width (from + count) slot) (before width (from + suc count) slot) low high seen in_range
          (λ at l h. sym (rw next (elsewhere (at / width) (from + count) slot (λ e. is (sym e))))) so_far)
    ]

-- all bins with values keep them in bins of twice as many places
pub doubled_bins : (bins : List Bin) (width low high count : ℕ) (seen : List Seen)
    → 0 < width → Between low high seen → count ≤ 1024 → high / width < low / width + 1024 → high / width < low / width + count
    → AreBinsOf bins width seen
    → (slot : ℕ) → slot < 1024
    → IsBinOf (get_or (merged bins (low / width) count) slot empty_bin) (has_slot (width * 2) slot) seen
doubled_bins bins width low high count seen pos in_range few near all shows slot small =
    same_bin (get_or (merged bins (low / width) count) slot empty_bin) (before width (low / width + count) slot) (has_slot (width * 2) slot) low high seen in_range
    (λ at l h.
    let up : at / width ≤ high / width = (in_order width low at high pos l h).1 in
    let under : nat_lt (at / width) (low / width + count) ≡ true = less (at / width) (low / width + count) (omega (arith, up, all)) in
    rw under (ap (λ n. nat_eq (n % 1024) slot) (div-div-eq-div-mul at width 2)))
    (merged_so_far bins width (low / width) low high seen in_range
    (λ at l h. ((in_order width low at high pos l h).0, let up : at / width ≤ high / width = (in_order width low at high pos l h).1 in omega (arith, up, near)))
    shows count few slot small)
