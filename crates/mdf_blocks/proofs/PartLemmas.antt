-- Parts of bytes, and the numbers in them.
use Rattle.std.proofs.Common.{◌≡◌, ℕ, ◌+◌, ◌-◌, ◌^◌, ◌<◌, ◌≤◌, List, [], ◌∷◌, ◌++◌, ◌∙◌, length}
use Rattle.std.proofs.Common.{refl}
use Rattle.std.proofs.Common.{sym, ap, arith, append_assoc, length-append, take, drop, All}
use Rattle.std.proofs.Common.{length-drop}
use Rattle.std.proofs.Math.Seq.{drop-append_seam, take-append-le, take-take, drop-drop}
use Rattle.std.proofs.lemmas.List.{drop-append-le, drop-take, take_at}
use Rattle.std.proofs.lemmas.List.Elements.{All-head, All-tail}
use Rattle.std.proofs.lemmas.Nat.{from_le_bytes-to_le_bytes_8}
use Rattle.std.specs.Int.{from_le_bytes, w64}
use Rattle.std.specs.Prelude.{slice_range}
use Rattle.mdf_blocks.specs.Numbers.{AreUint64s, uint64, uint64_at, uint64s}

-- a part that stands behind others
pub part_at : (front part back : List ℕ) (at end : ℕ) → at ≡ length front
    → end ≡ at + length part → slice_range (front ++ (part ++ back)) at end ≡ part
part_at front part back at end begins ends =
    let behind : drop at (front ++ (part ++ back)) ≡ part ++ back =
    ap (λ k. drop k (front ++ (part ++ back))) begins ∙ drop-append_seam front (part ++ back) in
    let long : length part ≡ end - at = omega arith in
    ap (take (end - at)) behind ∙ take_at part back (end - at) long

-- a part of a part
pub part_of_part : (xs : List ℕ) (at i j end : ℕ) → at ≤ i → i ≤ j → j ≤ end
    → slice_range xs i j ≡ slice_range (slice_range xs at end) (i - at) (j - at)
part_of_part xs at i j end low mid high =
    let n : ℕ = i - at in
    let m : ℕ = end - i in
    let whole : end - at ≡ n + m = omega arith in
    let width : (j - at) - n ≡ j - i = omega arith in
    let start : at + n ≡ i = omega arith in
    let short : j - i ≤ m = omega arith in
    sym (
    ap (λ k. take k (drop n (take (end - at) (drop at xs)))) width
    ∙ ap (λ k. take (j - i) (drop n (take k (drop at xs)))) whole
    ∙ ap (take (j - i)) (drop-take n m (drop at xs))
    ∙ take-take (j - i) m (drop n (drop at xs)) short
    ∙ ap (take (j - i)) (drop-drop n at xs)
    ∙ ap (λ k. take (j - i) (drop k xs)) start)

-- parts within equal parts are equal
pub same_part : (old new : List ℕ) (at i j end : ℕ) → at ≤ i → i ≤ j → j ≤ end
    → slice_range new at end ≡ slice_range old at end → slice_range new i j ≡ slice_range old i j
same_part old new at i j end low mid high same =
    part_of_part new at i j end low mid high
    ∙ ap (λ part. slice_range part (i - at) (j - at)) same
    ∙ sym (part_of_part old at i j end low mid high)

-- a number that stands behind others
pub uint64_at-written : (front back : List ℕ) (at n : ℕ) → at ≡ length front → n < 2 ^ 64
    → uint64_at at (front ++ (uint64 n ++ back)) ≡ n
uint64_at-written front back at n begins small =
    ap (from_le_bytes w64) (part_at front (uint64 n) back at (at + 8) begins refl)
    ∙ from_le_bytes-to_le_bytes_8 n small

-- numbers that stand behind others
pub AreUint64s-written : (ns front back : List ℕ) (at : ℕ) → at ≡ length front
    → All (λ n. n < 2 ^ 64) ns → AreUint64s at (front ++ (uint64s ns ++ back)) ns
AreUint64s-written [] front back at begins small = tt
AreUint64s-written (n ∷ ns) front back at begins small =
    let whole : front ++ (uint64s (n ∷ ns) ++ back) ≡ front ++ (uint64 n ++ (uint64s ns ++ back)) =
    ap (λ zs. front ++ zs) (append_assoc (uint64 n) (uint64s ns) back) in
    let later : front ++ (uint64s (n ∷ ns) ++ back)
    ≡ (front ++ uint64 n) ++ (uint64s ns ++ back) =
    whole ∙ sym (append_assoc front (uint64 n) (uint64s ns ++ back)) in
    let next : at + 8 ≡ length (front ++ uint64 n) =
    omega (arith, length-append front (uint64 n)) in (
      ap (uint64_at at) whole
          ∙ uint64_at-written front (uint64s ns ++ back) at n begins
          (All-head (λ n. n < 2 ^ 64) n ns small),
      rw later (AreUint64s-written ns (front ++ uint64 n) back (at + 8) next
          (All-tail (λ n. n < 2 ^ 64) n ns small)),
    )

-- numbers within equal parts are equal
pub AreUint64s-same : (ns old new : List ℕ) (at i end : ℕ) → at ≤ i
    → i + length (uint64s ns) ≤ end → slice_range new at end ≡ slice_range old at end
    → AreUint64s i old ns → AreUint64s i new ns
AreUint64s-same [] old new at i end low high same are = tt
AreUint64s-same (n ∷ ns) old new at i end low high same are =
    let long = length-append (uint64 n) (uint64s ns) in (
      ap (from_le_bytes w64) (same_part old new at i (i + 8) end low (omega arith)
          (omega (arith, high, long)) same) ∙ are.0,
      AreUint64s-same ns old new at (i + 8) end (omega (arith, low)) (omega (arith, high, long))
          same are.1,
    )

-- numbers are read in one way, if there are as many
pub same_uint64s : (bytes ms ns : List ℕ) (at : ℕ) → length ms ≡ length ns
    → AreUint64s at bytes ms → AreUint64s at bytes ns → ms ≡ ns
same_uint64s bytes [] [] at e p q = refl
same_uint64s bytes [] (n ∷ ns) at e p q = absurd (omega (arith, e))
same_uint64s bytes (m ∷ ms) [] at e p q = absurd (omega (arith, e))
same_uint64s bytes (m ∷ ms) (n ∷ ns) at e p q =
    let heads : m ≡ n = sym p.0 ∙ q.0 in
    let tails : ms ≡ ns = same_uint64s bytes ms ns (at + 8) (omega (arith, e)) p.1 q.1 in
    cc

-- a part of bytes that others come behind
pub part-append : (bytes more : List ℕ) (i j : ℕ) → i ≤ j → j ≤ length bytes
    → slice_range (bytes ++ more) i j ≡ slice_range bytes i j
part-append bytes more i j order within =
    let inside : i ≤ length bytes = omega arith in
    let short : j - i ≤ length (drop i bytes) = omega (arith, within, length-drop i bytes) in
    ap (take (j - i)) (drop-append-le i bytes more inside)
    ∙ take-append-le (j - i) (drop i bytes) more short
