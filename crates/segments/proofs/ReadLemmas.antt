-- What an image shows is what reading memory gives.
use Rattle.std.proofs.Common.{◌≡◌, ℕ, ◌+◌, ◌-◌, ◌<◌, true, List, length, get_or, refl, sym, ap, ◌∙◌, arith, Some, None, ◌==◌, ◌||◌, ◌&&◌, Bool, false, true≢false, inl, inr, cond, nat_lt}
use Rattle.std.specs.List.{list_any, position_or_len}
use Rattle.std.proofs.lemmas.List.Folds.{list_any_none}
use Rattle.std.proofs.lemmas.Bool.Decides.{nat_tests}
use Rattle.std.specs.Prelude.{slice_range, option_map, position, Option, Ok}
use Rattle.std.proofs.lemmas.Bool.Decides.{eqb_tells}
use Rattle.std.proofs.lemmas.List.Quantifiers.{position-Some}
use Rattle.std.proofs.lemmas.List.Sums.{fails_before_first}
use Rattle.segments.specs.declared.fault.SegmentFault.TheVariants as fault
use Rattle.segments.specs.declared.limits.TheConstants.{MAX_SEGMENTS}
use Rattle.segments.specs.declared.segment.Segment.{Segment}
use Rattle.segments.specs.Faults.{fault_from}
use Rattle.segments.specs.Image.{image_of, image_place, image_place_in, image_start}
use Rattle.segments.specs.Laws.{ShowsMemory}
use Rattle.segments.specs.Memory.{bytes_in, read_at}
use Rattle.segments.specs.Places.{base_of, is_readable, len_of, place_in}
use Rattle.segments.specs.Segment.{holds, may_read}
use Rattle.segments.proofs.FitLemmas.{no_segment}
use Rattle.segments.proofs.ImageLemmas.{base_at, get_there}
use Rattle.segments.proofs.OrderLemmas.{at_most_one, no_number}
use Rattle.segments.proofs.PlaceLemmas.{PlacedAt, placed, placed_lies}
use Rattle.segments.proofs.ShownLemmas.{bytes_there, image_shows, range_at}

before_none : (b : Bool) (n len k : ℕ) → nat_lt n len ≡ b → cond b (Some n) None ≡ None → k < len → k < n
before_none true n len k test none lt = absurd cc
before_none false n len k test none lt = grind (arith, nat_tests)

-- where an element passes, one is found
found : {X : Type 0} (p : X → Bool) (xs : List X) (i : ℕ) (d : X) → i < length xs → p (get_or xs i d) ≡ true → position p xs ≡ None → ⊥
found p xs i d h passes none =
    let fails = fails_before_first p xs i d (before_none (nat_lt (position_or_len p xs) (length xs)) (position_or_len p xs) (length xs) i refl none h) in
    true≢false (sym passes ∙ fails)

-- where some element passes, the first is found
pub record Found {X : Type 0} (p : X → Bool) (xs : List X) : Type 0 where
  pub at : ℕ
  pub is : position p xs ≡ Some at

any_found : {X : Type 0} (p : X → Bool) (xs : List X) → list_any p xs ≡ true → Found p xs
any_found p xs any = of_position (position p xs) refl
  where
    of_position : (o : Option ℕ) → position p xs ≡ o → Found p xs
    of_position (Some i) e = record { at = i; is = e }
    of_position None e =
        let none : list_any p xs ≡ false = list_any_none p xs (λ k d h. fails_before_first p xs k d (before_none (nat_lt (position_or_len p xs) (length xs)) (position_or_len p xs) (length xs) k refl e h)) in
        absurd (true≢false (sym any ∙ none))

-- bytes that event channel c may read have a place in the image
pub record HasPlace (c : ℕ) (segments : List Segment) (extension address size : ℕ) : Type 0 where
  pub at : ℕ
  pub is : image_place c segments extension address size ≡ Some at

pub has_place : (c : ℕ) (segments : List Segment) (extension address size : ℕ) → is_readable c segments extension address size ≡ true → HasPlace c segments extension address size
has_place c segments extension address size h =
    let first = any_found (λ (s : Segment). may_read c s && holds extension address size s) segments h in
    record { at = image_place_in segments address first.at; is = ap (option_map (image_place_in segments address)) first.is }

-- bytes of a segment that is there are read off it
read_there : (segments : List Segment) (memory : List (List ℕ)) (size i at : ℕ) → length (bytes_in memory i) ≡ len_of segments i
    → read_at segments memory size (Some (record { segment = i; start = at })) ≡ Ok (slice_range (bytes_in memory i) at (at + size))
read_there segments memory size i at is = elim (eqb_tells (length (bytes_in memory i)) (len_of segments i)) [
  | inl same ↦ rw same.0 refl
  | inr other ↦ absurd (other.1 is)
]

pub shows_memory : ShowsMemory
shows_memory channels c segments memory within fit extension address size at some placed_at = of_segment (position (holds extension address size) segments) refl
  where
    p : PlacedAt c segments extension address size at
    p = placed c segments extension address size at placed_at

    of_segment : (o : Option ℕ) → position (holds extension address size) segments ≡ o
        → read_at segments memory size (option_map (place_in segments address) o) ≡ Ok (slice_range (image_of c segments memory) at (at + size))
    of_segment None e = absurd (found (holds extension address size) segments p.segment no_segment p.there p.holds e)
    of_segment (Some k) e =
        let first = position-Some (holds extension address size) segments k no_segment e in
        let same : k ≡ p.segment =
        at_most_one channels 0 None segments (no_number (length segments == 0 || nat_lt MAX_SEGMENTS (length segments)) fault.Number (fault_from channels 0 None segments) within)
        extension address size k p.segment (get_or segments k no_segment) (get_or segments p.segment no_segment) some
        (get_there segments k no_segment first.0) (get_there segments p.segment no_segment p.there) first.1 p.holds in
        let l = placed_lies c segments extension address size at p in
        let start : address - base_of segments k ≡ at - image_start segments p.segment = omega (arith, p.is, ap (base_of segments) same, base_at segments p.segment no_segment p.there) in
        let end : at + size - image_start segments p.segment ≡ address - base_of segments k + size = omega (arith, start, l.begins) in
        ap (λ i. read_at segments memory size (Some (record { segment = i; start = address - base_of segments k }))) same
        ∙ read_there segments memory size p.segment (address - base_of segments k) (bytes_there c segments memory p.segment fit l.opened)
        ∙ ap Ok (range_at (bytes_in memory p.segment) (address - base_of segments k) (address - base_of segments k + size) (at - image_start segments p.segment) (at + size - image_start segments p.segment) start (sym end)
        ∙ sym (image_shows c segments memory at (at + size) p.segment fit l (omega arith)))
