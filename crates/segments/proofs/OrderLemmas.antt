-- Segments within their limits stand one behind another.
use Rattle.std.proofs.Common.{◌≡◌, ℕ, zero, suc, ◌+◌, ◌<◌, ◌≤◌, Bool, true, false, ◌&&◌, ◌||◌, not, List, [], ◌∷◌, length, sym, arith, inl, inr, refl, subst, ap}
use Rattle.std.specs.Prelude.{All, None, Some, Option, slice_get, ◌⊎◌, nat_lt, nat_le, ◌==◌, if◌then◌else◌}
use Rattle.std.proofs.lemmas.Bool.Decides.{nat_tests}
use Rattle.std.proofs.lemmas.Option.{none-some}
use Rattle.std.proofs.lemmas.List.Elements.{All-cons, All-nil}
use Rattle.segments.specs.declared.fault.SegmentFault.{SegmentFault}
use Rattle.segments.specs.declared.fault.SegmentFault.TheVariants as fault
use Rattle.segments.specs.declared.limits.TheConstants.{ADDRESSES, MAX_SEGMENTS}
use Rattle.segments.specs.declared.segment.Segment.{Segment}
use Rattle.segments.specs.Faults.{fault_from, fault_of, follows, has_bad_len, names_unknown, or_else, segments_fault}
use Rattle.segments.specs.Segment.{AreWithin, EndsWithin, end_of, holds}

-- the second of two segments stands behind the first
pub record IsBehind (s t : Segment) : Type 0 where
  pub either : (s.extension < t.extension) ⊎ ((s.extension ≡ t.extension) × (end_of s ≤ t.base))

then_behind : (s t u : Segment) → IsBehind s t → IsBehind t u → IsBehind s u
then_behind s t u a b = record { either = both a.either b.either }
  where
    both : (s.extension < t.extension) ⊎ ((s.extension ≡ t.extension) × (end_of s ≤ t.base)) → (t.extension < u.extension) ⊎ ((t.extension ≡ u.extension) × (end_of t ≤ u.base)) → (s.extension < u.extension) ⊎ ((s.extension ≡ u.extension) × (end_of s ≤ u.base))
    both (inl x) (inl y) = inl (omega (arith, x, y))
    both (inl x) (inr y) = inl (omega (arith, x, y.0))
    both (inr x) (inl y) = inl (omega (arith, x.0, y))
    both (inr x) (inr y) = inr (omega (arith, x.0, y.0), omega (arith, x.1, y.1))

neither : (a b : Option SegmentFault) → or_else a b ≡ None → (a ≡ None) × (b ≡ None)
neither None b e = (refl, e)
neither (Some f) b e = absurd (none-some f (sym e))

no_fault : (a b c d : Bool) (w x y z : SegmentFault) → (if a then Some w else if b then Some x else if not c then Some y else if d then Some z else None) ≡ None → c ≡ true
no_fault true b c d w x y z e = absurd (none-some w (sym e))
no_fault false true c d w x y z e = absurd (none-some x (sym e))
no_fault false false true d w x y z e = refl
no_fault false false false d w x y z e = absurd (none-some y (sym e))

-- a segment without a fault follows the one before it
follows_if : (channels i : ℕ) (s t : Segment) → fault_of channels i (Some s) t ≡ None → follows (Some s) t ≡ true
follows_if channels i s t e = no_fault (has_bad_len t) (nat_lt ADDRESSES (end_of t)) (follows (Some s) t) (names_unknown channels t) (fault.Len i) (fault.End i) (fault.Order i) (fault.Events i) e

-- what stands behind one segment within its limits
pub behind : (s t : Segment) → follows (Some s) t ≡ true → IsBehind s t
behind s t e = of_test (nat_lt s.extension t.extension) refl e
  where
    of_test : (b : Bool) → nat_lt s.extension t.extension ≡ b → (b || (s.extension == t.extension && nat_le (end_of s) t.base)) ≡ true → IsBehind s t
    of_test true lt e = record { either = inl (grind (arith, nat_tests)) }
    of_test false lt e = record { either = inr (grind (arith, nat_tests), grind (arith, nat_tests)) }

-- all segments that follow one within their limits stand behind it
pub all_behind : (channels i : ℕ) (s : Segment) (segments : List Segment) (j : ℕ) (t : Segment) → fault_from channels i (Some s) segments ≡ None → slice_get segments j ≡ Some t → IsBehind s t
all_behind channels i s [] j t e at = absurd (none-some t at)
all_behind channels i s (u ∷ more) zero t e at =
    let first = neither (fault_of channels i (Some s) u) (fault_from channels (i + 1) (Some u) more) e in
    let is : u ≡ t = cc in
    subst (λ v. IsBehind s v) is (behind s u (follows_if channels i s u first.0))
all_behind channels i s (u ∷ more) (suc j) t e at =
    let first = neither (fault_of channels i (Some s) u) (fault_from channels (i + 1) (Some u) more) e in
    then_behind s u t (behind s u (follows_if channels i s u first.0)) (all_behind channels (i + 1) u more j t first.1 at)

-- no bytes lie in two segments of which one stands behind the other
pub not_both : (s t : Segment) (extension address size : ℕ) → IsBehind s t → 0 < size → holds extension address size s ≡ true → holds extension address size t ≡ true → ⊥
not_both s t extension address size behind some in_s in_t = apart behind.either
  where
    apart : (s.extension < t.extension) ⊎ ((s.extension ≡ t.extension) × (end_of s ≤ t.base)) → ⊥
    apart (inl a) =
        let x : s.extension ≡ extension = grind (arith, nat_tests) in
        let y : t.extension ≡ extension = grind (arith, nat_tests) in
        omega (arith, a, x, y)
    apart (inr a) =
        let x : address + size ≤ end_of s = grind (arith, nat_tests) in
        let y : t.base ≤ address = grind (arith, nat_tests) in
        omega (arith, a.1, x, y, some)

pub at_most_one : (channels k : ℕ) (before : Option Segment) (segments : List Segment) → fault_from channels k before segments ≡ None
    → (extension address size i j : ℕ) (s t : Segment) → 0 < size
    → slice_get segments i ≡ Some s → slice_get segments j ≡ Some t
    → holds extension address size s ≡ true → holds extension address size t ≡ true → i ≡ j
at_most_one channels k before [] e extension address size i j s t some at_i at_j in_s in_t = absurd (none-some s at_i)
at_most_one channels k before (u ∷ more) e extension address size zero zero s t some at_i at_j in_s in_t = refl
at_most_one channels k before (u ∷ more) e extension address size zero (suc j) s t some at_i at_j in_s in_t =
    let next = neither (fault_of channels k before u) (fault_from channels (k + 1) (Some u) more) e in
    let is : u ≡ s = cc in
    absurd (not_both s t extension address size (all_behind channels (k + 1) s more j t (subst (λ v. fault_from channels (k + 1) (Some v) more ≡ None) is next.1) at_j) some in_s in_t)
at_most_one channels k before (u ∷ more) e extension address size (suc i) zero s t some at_i at_j in_s in_t =
    let next = neither (fault_of channels k before u) (fault_from channels (k + 1) (Some u) more) e in
    let is : u ≡ t = cc in
    absurd (not_both t s extension address size (all_behind channels (k + 1) t more i s (subst (λ v. fault_from channels (k + 1) (Some v) more ≡ None) is next.1) at_i) some in_t in_s)
at_most_one channels k before (u ∷ more) e extension address size (suc i) (suc j) s t some at_i at_j in_s in_t =
    let next = neither (fault_of channels k before u) (fault_from channels (k + 1) (Some u) more) e in
    ap suc (at_most_one channels (k + 1) (Some u) more next.1 extension address size i j s t some at_i at_j in_s in_t)

-- no fault at all is none of any segment
pub no_number : (b : Bool) (f : SegmentFault) (rest : Option SegmentFault) → (if b then Some f else rest) ≡ None → rest ≡ None
no_number true f rest e = absurd (none-some f (sym e))
no_number false f rest e = e

-- a segment without a fault ends at or before the last address
ends_if : (a b : Bool) (w x : SegmentFault) (rest : Option SegmentFault) → (if a then Some w else if b then Some x else rest) ≡ None → b ≡ false
ends_if true b w x rest e = absurd (none-some w (sym e))
ends_if false true w x rest e = absurd (none-some x (sym e))
ends_if false false w x rest e = refl

all_end : (channels k : ℕ) (before : Option Segment) (segments : List Segment) → fault_from channels k before segments ≡ None → All EndsWithin segments
all_end channels k before [] e = All-nil EndsWithin
all_end channels k before (s ∷ more) e =
    let next = neither (fault_of channels k before s) (fault_from channels (k + 1) (Some s) more) e in
    let test : nat_lt ADDRESSES (end_of s) ≡ false =
    ends_if (has_bad_len s) (nat_lt ADDRESSES (end_of s)) (fault.Len k) (fault.End k)
    (if not (follows before s) then Some (fault.Order k) else if names_unknown channels s then Some (fault.Events k) else None) next.0 in
    let here : EndsWithin s = grind (arith, nat_tests, test) in
    All-cons EndsWithin s more here (all_end channels (k + 1) (Some s) more next.1)

few : (n : ℕ) (b : Bool) (f : SegmentFault) (rest : Option SegmentFault) → (if b || nat_lt MAX_SEGMENTS n then Some f else rest) ≡ None → n ≤ MAX_SEGMENTS
few n true f rest e = absurd (none-some f (sym e))
few n false f rest e = of_test (nat_lt MAX_SEGMENTS n) refl e
  where
    of_test : (b : Bool) → nat_lt MAX_SEGMENTS n ≡ b → (if b then Some f else rest) ≡ None → n ≤ MAX_SEGMENTS
    of_test true lt none = absurd (none-some f (sym none))
    of_test false lt none = grind (arith, nat_tests, lt)

-- segments without a fault are within what code relies on
pub are_within : (channels : ℕ) (segments : List Segment) → segments_fault channels segments ≡ None → AreWithin segments
are_within channels segments e = record {
  few = few (length segments) (length segments == 0) fault.Number (fault_from channels 0 None segments) e;
  ends = all_end channels 0 None segments (no_number (length segments == 0 || nat_lt MAX_SEGMENTS (length segments)) fault.Number (fault_from channels 0 None segments) e);
}
