-- Bins of twice as many places show what the bins before showed.
use Rattle.std.proofs.Common.{◌≡◌, ◌≢◌, ℕ, zero, suc, ◌+◌, ◌*◌, ◌/◌, ◌%◌, ◌<◌, ◌≤◌, Bool, true, false, ◌&&◌, ◌||◌, nat_eq, nat_lt, List, length, get_or, refl, sym, ap, ◌∙◌, arith, inl, inr}
use Rattle.std.proofs.Math.Nat.{div-div-eq-div-mul, div-mul-le_self}
use Rattle.std.proofs.lemmas.Bool.{cases_eq}
use Rattle.std.proofs.lemmas.Bool.Decides.{nat_tests}
use Rattle.std.proofs.lemmas.Nat.{le-div}
use Rattle.std.proofs.lemmas.List.{get_or-replicate, get_or-set_other, get_or-set_same, length-replicate, length-set}
use Rattle.sample_picture.specs.declared.mark.Mark.{Mark}
use Rattle.sample_picture.specs.declared.mark.Mark.TheVariants.{Empty}
use Rattle.sample_picture.specs.Marks.{Seen, mark_at, with_mark}
use Rattle.sample_picture.specs.Gathered.{has_slot}
use Rattle.sample_picture.specs.Inner.{merged, put_mark}
use Rattle.sample_picture.proofs.MarkLemmas.{Between, no_mark, parted_marks, same_marks}

pub length-merged : (bins : List Mark) (from count : ℕ) → length (merged bins from count) ≡ 1024
length-merged bins from zero = length-replicate 1024 Empty
length-merged bins from (suc count) = length-set (merged bins from count) _ _ ∙ length-merged bins from count

-- the places whose bin comes before this one, and goes to the slot
abbrev pub before : ℕ → ℕ → ℕ → ℕ → Bool
before width bin slot at = nat_lt (at / width) bin && nat_eq (at / width / 2 % 1024) slot

-- bins that are near enough are told by their slots
one_bin : (from a b : ℕ) → from ≤ a → a < from + 1024 → from ≤ b → b < from + 1024 → a % 1024 ≡ b % 1024 → a ≡ b
one_bin from a b p q r s e = omega arith

pub less : (a b : ℕ) → a < b → nat_lt a b ≡ true
less a b h = grind (arith, nat_tests)

pub not_less : (a b : ℕ) → b ≤ a → nat_lt a b ≡ false
not_less a b h = grind (arith, nat_tests)

same : (a b : ℕ) → a ≡ b → nat_eq a b ≡ true
same a b h = grind (arith, nat_tests)

other : (a b : ℕ) → a ≢ b → nat_eq a b ≡ false
other a b h = grind (arith, nat_tests)

-- a later bound is the same for what is no bin of it
bound_more : (a g : ℕ) → a ≢ g → nat_lt a (g + 1) ≡ nat_lt a g
bound_more a g ne = grind (arith, nat_tests)

-- at another slot nothing is added
pub elsewhere : (a g slot : ℕ) → g / 2 % 1024 ≢ slot → (nat_lt a (g + 1) && nat_eq (a / 2 % 1024) slot) ≡ (nat_lt a g && nat_eq (a / 2 % 1024) slot)
elsewhere a g slot ne = elim (cases_eq a g) [
  | inl is ↦
      let no : nat_eq (a / 2 % 1024) slot ≡ false = other (a / 2 % 1024) slot (λ e. ne (sym (ap (λ n. n / 2 % 1024) is) ∙ e)) in
      let low : nat_lt a g ≡ false = not_less a g (omega (arith, is)) in
      let high : nat_lt a (g + 1) ≡ true = less a (g + 1) (omega (arith, is)) in
      rw (no, low, high) refl
  | inr is ↦ ap (λ t. t && nat_eq (a / 2 % 1024) slot) (bound_more a g is)
]

-- at the bin's slot its samples are added
pub added : (from a g : ℕ) → from ≤ a → a < from + 1024 → from ≤ g → g < from + 1024
    → (nat_lt a (g + 1) && nat_eq (a / 2 % 1024) (g / 2 % 1024)) ≡ nat_eq (a % 1024) (g % 1024) || (nat_lt a g && nat_eq (a / 2 % 1024) (g / 2 % 1024))
added from a g p q r s = elim (cases_eq a g) [
  | inl is ↦
      let bin : nat_eq (a % 1024) (g % 1024) ≡ true = same (a % 1024) (g % 1024) (ap (λ n. n % 1024) is) in
      let yes : nat_eq (a / 2 % 1024) (g / 2 % 1024) ≡ true = same (a / 2 % 1024) (g / 2 % 1024) (ap (λ n. n / 2 % 1024) is) in
      let high : nat_lt a (g + 1) ≡ true = less a (g + 1) (omega (arith, is)) in
      rw (bin, yes, high) refl
  | inr is ↦
      let bin : nat_eq (a % 1024) (g % 1024) ≡ false = other (a % 1024) (g % 1024) (λ e. is (one_bin from a g p q r s e)) in
      rw bin (ap (λ t. t && nat_eq (a / 2 % 1024) (g / 2 % 1024)) (bound_more a g is))
]

-- the bins so far show the samples that come before the next one
pub merged_so_far : (bins : List Mark) (width from low high : ℕ) (seen : List Seen)
    → Between low high seen
    → ((at : ℕ) → low ≤ at → at ≤ high → (from ≤ at / width) × (at / width < from + 1024))
    → ((slot : ℕ) → slot < 1024 → get_or bins slot Empty ≡ mark_at (has_slot width slot) seen)
    → (count : ℕ) → count ≤ 1024 → (slot : ℕ) → slot < 1024
    → get_or (merged bins from count) slot Empty ≡ mark_at (before width (from + count) slot) seen
merged_so_far bins width from low high seen in_range near shows zero few slot small =
    get_or-replicate 1024 slot Empty Empty small
    ∙ sym (no_mark (before width (from + zero) slot) low high seen in_range
    (λ at l h. let no : nat_lt (at / width) (from + zero) ≡ false = not_less (at / width) (from + zero) (omega (arith, (near at l h).0)) in rw no refl))
merged_so_far bins width from low high seen in_range near shows (suc count) few slot small =
    let g : ℕ = from + count in
    let t : ℕ = (from + count) / 2 % 1024 in
    let mark : Mark = get_or bins ((from + count) % 1024) Empty in
    let so_far : get_or (merged bins from count) slot Empty ≡ mark_at (before width (from + count) slot) seen =
    merged_so_far bins width from low high seen in_range near shows count (omega arith) slot small in
    let next : from + suc count ≡ from + count + 1 = omega arith in
    elim (cases_eq slot ((from + count) / 2 % 1024)) [
      | inl is ↦
          let inside : t < length (merged bins from count) = omega (arith, length-merged bins from count) in
          let fits : (from + count) % 1024 < 1024 = omega arith in
          let parted : mark_at (before width (from + suc count) slot) seen ≡ with_mark (mark_at (has_slot width ((from + count) % 1024)) seen) (mark_at (before width (from + count) slot) seen) =
          parted_marks (before width (from + suc count) slot) (has_slot width ((from + count) % 1024)) (before width (from + count) slot) low high seen in_range
          (λ at l h. rw (next, is) (added from (at / width) (from + count) (near at l h).0 (near at l h).1 (omega arith) (omega arith))) in
          ap (λ k. get_or (put_mark (merged bins from count) t mark) k Empty) is
          ∙ get_or-set_same (merged bins from count) t (with_mark mark (get_or (merged bins from count) t Empty)) Empty inside
          ∙ ap (λ k. with_mark mark (get_or (merged bins from count) k Empty)) (sym is)
          ∙ ap (with_mark mark) so_far
          ∙ ap (λ m. with_mark m (mark_at (before width (from + count) slot) seen)) (shows ((from + count) % 1024) fits)
          ∙ sym parted
      | inr is ↦
          get_or-set_other (merged bins from count) t slot (with_mark mark (get_or (merged bins from count) t Empty)) Empty is
          ∙ so_far
          ∙ sym (same_marks (before width (from + suc count) slot) (before width (from + count) slot) low high seen in_range
          (λ at l h. rw next (elsewhere (at / width) (from + count) slot (λ e. is (sym e)))))
    ]

-- places that are in order have bins that are in order
pub in_order : (width low at high : ℕ) → 0 < width → low ≤ at → at ≤ high → (low / width ≤ at / width) × (at / width ≤ high / width)
in_order width low at high pos l h =
    (le-div (low / width) at width pos (omega (arith, div-mul-le_self low width)), le-div (at / width) high width pos (omega (arith, div-mul-le_self at width)))

-- all bins with samples show them in bins of twice as many places
pub doubled_marks : (bins : List Mark) (width low high count : ℕ) (seen : List Seen)
    → 0 < width → Between low high seen → count ≤ 1024 → high / width < low / width + 1024 → high / width < low / width + count
    → ((slot : ℕ) → slot < 1024 → get_or bins slot Empty ≡ mark_at (has_slot width slot) seen)
    → (slot : ℕ) → slot < 1024
    → get_or (merged bins (low / width) count) slot Empty ≡ mark_at (has_slot (width * 2) slot) seen
doubled_marks bins width low high count seen pos in_range few near all shows slot small =
    merged_so_far bins width (low / width) low high seen in_range
    (λ at l h. ((in_order width low at high pos l h).0, let up : at / width ≤ high / width = (in_order width low at high pos l h).1 in omega (arith, up, near)))
    shows count few slot small
    ∙ same_marks (before width (low / width + count) slot) (has_slot (width * 2) slot) low high seen in_range
    (λ at l h.
    let up : at / width ≤ high / width = (in_order width low at high pos l h).1 in
    let under : nat_lt (at / width) (low / width + count) ≡ true = less (at / width) (low / width + count) (omega (arith, up, all)) in
    rw under (ap (λ n. nat_eq (n % 1024) slot) (div-div-eq-div-mul at width 2)))
