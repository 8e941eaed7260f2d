-- Where segments stand in an image of all memory.
use Rattle.std.proofs.Common.{◌≡◌, ℕ, zero, suc, ◌+◌, ◌*◌, ◌<◌, ◌≤◌, List, [], ◌∷◌, length, take, get_or, refl, ap, ◌∙◌, arith, ◌&&◌, false, nat_le, Some, None}
use Rattle.std.specs.Prelude.{slice_get, unwrap_or, option_map}
use Rattle.std.proofs.lemmas.List.Sums.{sum_by-cons}
use Rattle.segments.specs.declared.segment.Segment.{Segment}
use Rattle.std.specs.Prelude.{All}
use Rattle.std.proofs.lemmas.List.Elements.{All-head, All-tail}
use Rattle.segments.specs.Segment.{AreWithin, EndsWithin}
use Rattle.segments.specs.Image.{HaveImage, image_len, image_start, is_open_to, lies_in}
use Rattle.segments.specs.Places.{base_of, len_of}
use Rattle.segments.specs.Segment.{may_read}

-- a segment and the byte behind it
abbrev pub spaced : Segment → ℕ
spaced s = s.len + 1

-- where the segment behind the first ones begins
start_suc : (segments : List Segment) (i : ℕ) (d : Segment) → i < length segments → image_start segments (suc i) ≡ image_start segments i + (get_or segments i d).len + 1
start_suc [] i d h = absurd (omega (arith, h))
start_suc (s ∷ more) zero d h = sum_by-cons spaced s [] ∙ omega arith
start_suc (s ∷ more) (suc i) d h = omega (arith, sum_by-cons spaced s (take (suc i) more), sum_by-cons spaced s (take i more), start_suc more i d (omega (arith, h)))

pub start_more : (segments : List Segment) (i : ℕ) (d : Segment) → i < length segments → image_start segments (i + 1) ≡ image_start segments i + (get_or segments i d).len + 1
start_more segments i d h =
    let one : i + 1 ≡ suc i = omega arith in
    ap (image_start segments) one ∙ start_suc segments i d h

-- a segment ends within the image
pub ends_within : (segments : List Segment) (i : ℕ) (d : Segment) → i < length segments → image_start segments i + (get_or segments i d).len ≤ image_len segments
ends_within [] i d h = absurd (omega (arith, h))
ends_within (s ∷ []) zero d h = omega arith
ends_within (s ∷ []) (suc i) d h = absurd (omega (arith, h))
ends_within (s ∷ t ∷ more) zero d h = omega arith
ends_within (s ∷ t ∷ more) (suc i) d h = omega (arith, sum_by-cons spaced s (take i (t ∷ more)), ends_within (t ∷ more) i d (omega (arith, h)))

-- the last one at its end
pub last_ends : (segments : List Segment) (i : ℕ) (d : Segment) → length segments ≡ i + 1 → image_start segments i + (get_or segments i d).len ≡ image_len segments
last_ends [] i d h = absurd (omega (arith, h))
last_ends (s ∷ []) zero d h = omega arith
last_ends (s ∷ []) (suc i) d h = absurd (omega (arith, h))
last_ends (s ∷ t ∷ more) zero d h = absurd (omega (arith, h))
last_ends (s ∷ t ∷ more) (suc i) d h = omega (arith, sum_by-cons spaced s (take i (t ∷ more)), last_ends (t ∷ more) i d (omega (arith, h)))

-- so does the byte behind a segment that isn't the last
pub room_behind : (segments : List Segment) (i k : ℕ) (d : Segment) → i < k → k < length segments → image_start segments i + ((get_or segments i d).len + 1) ≤ image_len segments
room_behind segments i k d h there =
    let more = start_more segments i d (omega (arith, h, there)) in
    let ends = ends_within segments (i + 1) d (omega (arith, h, there)) in
    omega (arith, more, ends)

-- a segment by its number
pub get_there : (segments : List Segment) (i : ℕ) (d : Segment) → i < length segments → slice_get segments i ≡ Some (get_or segments i d)
get_there [] i d h = absurd (omega (arith, h))
get_there (s ∷ more) zero d h = refl
get_there (s ∷ more) (suc i) d h = get_there more i d (omega (arith, h))

pub get_past : (segments : List Segment) (i : ℕ) → length segments ≤ i → slice_get segments i ≡ None
get_past [] i h = refl
get_past (s ∷ more) zero h = absurd (omega (arith, h))
get_past (s ∷ more) (suc i) h = get_past more i (omega (arith, h))

pub len_at : (segments : List Segment) (i : ℕ) (d : Segment) → i < length segments → len_of segments i ≡ (get_or segments i d).len
len_at segments i d h = ap (λ o. unwrap_or (option_map (λ (s : Segment). s.len) o) 0) (get_there segments i d h)

pub base_at : (segments : List Segment) (i : ℕ) (d : Segment) → i < length segments → base_of segments i ≡ (get_or segments i d).base
base_at segments i d h = ap (λ o. unwrap_or (option_map (λ (s : Segment). s.base) o) 0) (get_there segments i d h)

-- bytes of the image in a segment that is there, and in none that isn't
pub lies_at : (c : ℕ) (segments : List Segment) (start end i : ℕ) (d : Segment) → i < length segments
    → lies_in c segments start end i ≡ (may_read c (get_or segments i d) && nat_le (image_start segments i) start && nat_le end (image_start segments i + (get_or segments i d).len))
lies_at c segments start end i d h =
    ap (λ o. is_open_to c o && nat_le (image_start segments i) start && nat_le end (image_start segments i + len_of segments i)) (get_there segments i d h)
    ∙ ap (λ n. may_read c (get_or segments i d) && nat_le (image_start segments i) start && nat_le end (image_start segments i + n)) (len_at segments i d h)

pub lies_not : (c : ℕ) (segments : List Segment) (start end i : ℕ) → length segments ≤ i → lies_in c segments start end i ≡ false
lies_not c segments start end i h =
    ap (λ o. is_open_to c o && nat_le (image_start segments i) start && nat_le end (image_start segments i + len_of segments i)) (get_past segments i h)

-- segments within their limits have an image
image_within : (segments : List Segment) → All EndsWithin segments → image_len segments ≤ length segments * 4294967297
image_within [] each = omega arith
image_within (s ∷ []) each =
    let here : EndsWithin s = All-head EndsWithin s [] each in
    omega (arith, here)
image_within (s ∷ t ∷ more) each =
    let here : EndsWithin s = All-head EndsWithin s (t ∷ more) each in
    omega (arith, here, image_within (t ∷ more) (All-tail EndsWithin s (t ∷ more) each))

pub have_image : (segments : List Segment) → AreWithin segments → HaveImage segments
have_image segments within = record { few = within.few; len = omega (arith, within.few, image_within segments within.ends) }
