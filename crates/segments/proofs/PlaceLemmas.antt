-- Places in an image of all memory.
use Rattle.std.proofs.Common.{◌≡◌, ℕ, zero, suc, ◌+◌, ◌-◌, ◌<◌, ◌≤◌, true, ◌&&◌, List, [], ◌∷◌, length, get_or, refl, sym, ap, ◌∙◌, arith, Some, None, inl, inr, true≢false, nat_le, ◌==◌}
use Rattle.std.specs.Prelude.{slice_get, option_map, Option}
use Rattle.std.proofs.lemmas.Bool.{and_parts}
use Rattle.std.proofs.lemmas.Bool.Decides.{eqb_tells, leb_tells}
use Rattle.std.proofs.lemmas.List.Quantifiers.{position-Some}
use Rattle.segments.specs.declared.segment.Segment.{Segment}
use Rattle.segments.specs.Image.{image_place, image_place_in, image_start, is_open_to, readable_in}
use Rattle.segments.specs.Places.{len_of}
use Rattle.segments.specs.Segment.{end_of, holds, may_read}
use Rattle.segments.proofs.FitLemmas.{no_segment}
use Rattle.segments.proofs.ImageLemmas.{base_at, get_there, len_at, start_more}
use Rattle.segments.proofs.ShownLemmas.{Lie}

-- what a place in the image says of an entry
pub record PlacedAt (c : ℕ) (segments : List Segment) (extension address size at : ℕ) : Type 0 where
  pub segment : ℕ
  pub there : segment < length segments
  pub readable : may_read c (get_or segments segment no_segment) ≡ true
  pub holds : holds extension address size (get_or segments segment no_segment) ≡ true
  pub is : at ≡ image_start segments segment + (address - (get_or segments segment no_segment).base)

some_is : {X : Type 0} (x y : X) → Some x ≡ Some y → x ≡ y
some_is x y e = cc

pub placed : (c : ℕ) (segments : List Segment) (extension address size at : ℕ) → image_place c segments extension address size ≡ Some at → PlacedAt c segments extension address size at
placed c segments extension address size at h = of_segment (readable_in c segments extension address size) refl h
  where
    of_segment : (found : Option ℕ) → readable_in c segments extension address size ≡ found → option_map (image_place_in segments address) found ≡ Some at → PlacedAt c segments extension address size at
    of_segment None e h = absurd (cc)
    of_segment (Some i) e h =
        let at_i = position-Some (λ (s : Segment). may_read c s && holds extension address size s) segments i no_segment e in
        let passes = at_i.1 in
        let both = and_parts (may_read c (get_or segments i no_segment)) (holds extension address size (get_or segments i no_segment)) passes in
        record {
          segment = i;
          there = at_i.0;
          readable = both.0;
          holds = both.1;
          is = sym (some_is (image_place_in segments address i) at h) ∙ ap (λ n. image_start segments i + (address - n)) (base_at segments i no_segment at_i.0);
        }

-- bytes of an entry lie in its segment
pub placed_lies : (c : ℕ) (segments : List Segment) (extension address size at : ℕ) (p : PlacedAt c segments extension address size at) → Lie c segments at (at + size) p.segment
placed_lies c segments extension address size at p =
    let s : Segment = get_or segments p.segment no_segment in
    let held = and_parts (s.extension == extension && nat_le s.base address) (nat_le (address + size) (end_of s)) p.holds in
    let front = and_parts (s.extension == extension) (nat_le s.base address) held.0 in
    let base : s.base ≤ address = elim (leb_tells s.base address) [ inl t ↦ t.1 | inr t ↦ absurd (true≢false (sym front.1 ∙ t.0)) ] in
    let end : address + size ≤ end_of s = elim (leb_tells (address + size) (end_of s)) [ inl t ↦ t.1 | inr t ↦ absurd (true≢false (sym held.1 ∙ t.0)) ] in
    let len = len_at segments p.segment no_segment p.there in
    record {
      opened = ap (is_open_to c) (get_there segments p.segment no_segment p.there) ∙ p.readable;
      begins = omega (arith, p.is);
      ends = omega (arith, p.is, base, end, len);
    }

-- a segment that is open is there
pub there_if_open : (c : ℕ) (segments : List Segment) (i : ℕ) → is_open_to c (slice_get segments i) ≡ true → i < length segments
there_if_open c [] i h = absurd (true≢false (sym h))
there_if_open c (s ∷ segments) zero h = omega arith
there_if_open c (s ∷ segments) (suc i) h = omega (arith, there_if_open c segments i h)

-- a later segment begins behind the end of an earlier one, and the byte behind it
apart : (segments : List Segment) (i n : ℕ) → i + 1 + n < length segments → image_start segments i + len_of segments i + 1 ≤ image_start segments (i + 1 + n)
apart segments i zero h =
    let more = start_more segments i no_segment (omega (arith, h)) in
    let len = len_at segments i no_segment (omega (arith, h)) in
    let same : i + 1 + 0 ≡ i + 1 = omega arith in
    omega (arith, more, len, ap (image_start segments) same)
apart segments i (suc n) h =
    let rest = apart segments i n (omega (arith, h)) in
    let more = start_more segments (i + 1 + n) no_segment (omega (arith, h)) in
    let same : i + 1 + suc n ≡ i + 1 + n + 1 = omega arith in
    omega (arith, rest, more, ap (image_start segments) same)

pub later_begins : (segments : List Segment) (i j : ℕ) → i < j → j < length segments → image_start segments i + len_of segments i + 1 ≤ image_start segments j
later_begins segments i j h there =
    let same : i + 1 + (j - i - 1) ≡ j = omega (arith, h) in
    omega (arith, apart segments i (j - i - 1) (omega (arith, h, there)), ap (image_start segments) same)

-- bytes that touch lie in one segment
pub touch : (c : ℕ) (segments : List Segment) (a b d i j : ℕ) → a ≤ b → b ≤ d → Lie c segments a b i → Lie c segments b d j → i ≡ j
touch c segments a b d i j first second x y = elim (eqb_tells i j) [
  | inl same ↦ same.1
  | inr other ↦ elim (leb_tells (suc i) j) [
    | inl less ↦ absurd (omega (arith, x.ends, y.begins, later_begins segments i j less.1 (there_if_open c segments j y.opened)))
    | inr more ↦ absurd (omega (arith, first, second, x.begins, y.ends, later_begins segments j i (omega (arith, other.1, more.1)) (there_if_open c segments i x.opened)))
  ]
]
