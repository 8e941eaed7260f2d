-- What an image of memory shows of each segment.
use Rattle.std.proofs.Common.{◌≡◌, ℕ, zero, suc, ◌+◌, ◌-◌, ◌≤◌, Bool, true, false, ◌&&◌, ◌||◌, not, ◌==◌, List, [], ◌∷◌, ◌++◌, length, take, drop, refl, sym, ap, ◌∙◌, arith, inl, inr, true≢false, if◌then◌else◌, zero-add, length-append, nat_le}
use Rattle.std.specs.Prelude.{slice_get, slice_range, zip, replicate}
use Rattle.std.specs.List.{list_all}
use Rattle.std.proofs.lemmas.Bool.{and_parts}
use Rattle.std.proofs.lemmas.Bool.Decides.{nat_tests, eqb_tells, leb_tells}
use Rattle.std.proofs.lemmas.List.Sums.{sum_by-cons}
use Rattle.std.proofs.Math.Seq.{drop-append-add}
use Rattle.std.proofs.lemmas.List.{drop-append-le, take-append-le, length-drop, length-replicate}
use Rattle.segments.specs.declared.segment.Segment.{Segment}
use Rattle.segments.specs.Image.{image_len, image_of, image_start, is_open_to, lies_in, shown_to}
use Rattle.segments.specs.Memory.{bytes_in, fits, is_there}
use Rattle.segments.specs.Places.{len_of}
use Rattle.segments.specs.Segment.{may_read}
use Rattle.segments.proofs.ImageLemmas.{spaced}

-- memory fits segments, one by one
abbrev pub AreThere : ℕ → List Segment → List (List ℕ) → Type 0
AreThere c [] [] = Unit {0}
AreThere c [] (bytes ∷ memory) = ⊥
AreThere c (s ∷ segments) [] = ⊥
AreThere c (s ∷ segments) (bytes ∷ memory) = (is_there c (s, bytes) ≡ true) × AreThere c segments memory

there_of : (c : ℕ) (segments : List Segment) (memory : List (List ℕ)) → length memory ≡ length segments → list_all (is_there c) (zip segments memory) ≡ true → AreThere c segments memory
there_of c [] [] len all = tt
there_of c [] (m ∷ memory) len all = absurd (omega (arith, len))
there_of c (s ∷ segments) [] len all = absurd (omega (arith, len))
there_of c (s ∷ segments) (m ∷ memory) len all =
    let both = and_parts (is_there c (s, m)) (list_all (is_there c) (zip segments memory)) all in
    (both.0, there_of c segments memory (omega (arith, len)) both.1)

pub are_there : (c : ℕ) (segments : List Segment) (memory : List (List ℕ)) → fits c segments memory ≡ true → AreThere c segments memory
are_there c segments memory h =
    let both = and_parts (length memory == length segments) (list_all (is_there c) (zip segments memory)) h in
    let len : length memory ≡ length segments = elim (eqb_tells (length memory) (length segments)) [ inl t ↦ t.1 | inr t ↦ absurd (true≢false (sym both.0 ∙ t.0)) ] in
    there_of c segments memory len both.1

-- a segment as it is shown has its length
shown_len : (c : ℕ) (s : Segment) (bytes : List ℕ) → is_there c (s, bytes) ≡ true → length (shown_to c s bytes) ≡ s.len
shown_len c s bytes h = of_test (may_read c s) h
  where
    of_test : (b : Bool) → (not b || length bytes == s.len) ≡ true → length (if b then bytes else replicate s.len 0) ≡ s.len
    of_test true h = grind (arith, nat_tests)
    of_test false h = length-replicate s.len 0

-- a segment that may be read is shown as it is
shown_open : (c : ℕ) (s : Segment) (bytes : List ℕ) → may_read c s ≡ true → shown_to c s bytes ≡ bytes
shown_open c s bytes opened = ap (λ (b : Bool). if b then bytes else replicate s.len 0) opened

-- a part of the first of two
range_first : (xs ys : List ℕ) (a b : ℕ) → a ≤ b → b ≤ length xs → slice_range (xs ++ ys) a b ≡ slice_range xs a b
range_first xs ys a b h within =
    ap (take (b - a)) (drop-append-le a xs ys (omega (arith, h, within)))
    ∙ take-append-le (b - a) (drop a xs) ys (omega (arith, within, length-drop a xs))

-- a part of what stands behind the first and a byte
range_behind : (xs ys : List ℕ) (x n a b : ℕ) → length xs ≡ n → slice_range (xs ++ x ∷ ys) (n + 1 + a) (n + 1 + b) ≡ slice_range ys a b
range_behind xs ys x n a b is =
    let from : n + 1 + a ≡ length xs + suc a = omega (arith, is) in
    let many : n + 1 + b - (n + 1 + a) ≡ b - a = omega arith in
    ap (λ k. take k (drop (n + 1 + a) (xs ++ x ∷ ys))) many
    ∙ ap (λ k. take (b - a) (drop k (xs ++ x ∷ ys))) from
    ∙ ap (take (b - a)) (drop-append-add xs (x ∷ ys) (suc a))

pub range_at : (xs : List ℕ) (a b c d : ℕ) → a ≡ c → b ≡ d → slice_range xs a b ≡ slice_range xs c d
range_at xs a b c d from to = ap (λ k. slice_range xs k b) from ∙ ap (λ k. slice_range xs c k) to

-- what the image shows of a segment that may be read
shows : (c : ℕ) (segments : List Segment) (memory : List (List ℕ)) → AreThere c segments memory
    → (i a b : ℕ) → is_open_to c (slice_get segments i) ≡ true → a ≤ b → b ≤ len_of segments i
    → slice_range (image_of c segments memory) (image_start segments i + a) (image_start segments i + b) ≡ slice_range (bytes_in memory i) a b
shows c [] memory there i a b opened h within = absurd (true≢false (sym opened))
shows c (s ∷ segments) [] there i a b opened h within = absurd there
shows c (s ∷ []) (bytes ∷ memory) there zero a b opened h within =
    ap (λ xs. slice_range xs (image_start (s ∷ []) 0 + a) (image_start (s ∷ []) 0 + b)) (shown_open c s bytes opened)
    ∙ range_at bytes (image_start (s ∷ []) 0 + a) (image_start (s ∷ []) 0 + b) a b (zero-add a) (zero-add b)
shows c (s ∷ []) (bytes ∷ memory) there (suc i) a b opened h within = absurd (true≢false (sym opened))
shows c (s ∷ t ∷ segments) (bytes ∷ memory) there zero a b opened h within =
    let others : List ℕ = image_of c (t ∷ segments) memory in
    range_at (shown_to c s bytes ++ 0 ∷ others) (image_start (s ∷ t ∷ segments) 0 + a) (image_start (s ∷ t ∷ segments) 0 + b) a b (zero-add a) (zero-add b)
    ∙ range_first (shown_to c s bytes) (0 ∷ others) a b h (omega (arith, within, shown_len c s bytes there.0))
    ∙ ap (λ xs. slice_range xs a b) (shown_open c s bytes opened)
shows c (s ∷ t ∷ segments) (bytes ∷ memory) there (suc i) a b opened h within =
    let others : List ℕ = image_of c (t ∷ segments) memory in
    let begins : image_start (s ∷ t ∷ segments) (suc i) ≡ s.len + 1 + image_start (t ∷ segments) i = sum_by-cons spaced s (take i (t ∷ segments)) in
    range_at (shown_to c s bytes ++ 0 ∷ others) (image_start (s ∷ t ∷ segments) (suc i) + a) (image_start (s ∷ t ∷ segments) (suc i) + b)
    (s.len + 1 + (image_start (t ∷ segments) i + a)) (s.len + 1 + (image_start (t ∷ segments) i + b)) (omega (arith, begins)) (omega (arith, begins))
    ∙ range_behind (shown_to c s bytes) others 0 s.len (image_start (t ∷ segments) i + a) (image_start (t ∷ segments) i + b) (shown_len c s bytes there.0)
    ∙ shows c (t ∷ segments) memory there.1 i a b opened h within

-- what a test of bytes in a segment says
pub record Lie (c : ℕ) (segments : List Segment) (start end i : ℕ) : Type 0 where
  pub opened : is_open_to c (slice_get segments i) ≡ true
  pub begins : image_start segments i ≤ start
  pub ends : end ≤ image_start segments i + len_of segments i

pub lie : (c : ℕ) (segments : List Segment) (start end i : ℕ) → lies_in c segments start end i ≡ true → Lie c segments start end i
lie c segments start end i h =
    let all = and_parts (is_open_to c (slice_get segments i) && nat_le (image_start segments i) start) (nat_le end (image_start segments i + len_of segments i)) h in
    let both = and_parts (is_open_to c (slice_get segments i)) (nat_le (image_start segments i) start) all.0 in
    let begins = both.1 in
    let ends = all.1 in
    record { opened = both.0; begins = grind (arith, nat_tests, begins); ends = grind (arith, nat_tests, ends) }

le_true : (a b : ℕ) → a ≤ b → nat_le a b ≡ true
le_true a b h = elim (leb_tells a b) [ inl t ↦ t.0 | inr t ↦ absurd (omega (arith, h, t.1)) ]

pub lies_if : (c : ℕ) (segments : List Segment) (start end i : ℕ) → Lie c segments start end i → lies_in c segments start end i ≡ true
lies_if c segments start end i l =
    rw (l.opened, le_true (image_start segments i) start l.begins, le_true end (image_start segments i + len_of segments i) l.ends) refl

-- bytes of the image are those of the segment that they lie in
pub image_shows : (c : ℕ) (segments : List Segment) (memory : List (List ℕ)) (start end i : ℕ) → fits c segments memory ≡ true → Lie c segments start end i → start ≤ end
    → slice_range (image_of c segments memory) start end ≡ slice_range (bytes_in memory i) (start - image_start segments i) (end - image_start segments i)
image_shows c segments memory start end i fit l ordered =
    let at = image_start segments i in
    range_at (image_of c segments memory) start end (at + (start - at)) (at + (end - at)) (omega (arith, l.begins)) (omega (arith, l.begins, ordered))
    ∙ shows c segments memory (are_there c segments memory fit) i (start - at) (end - at) l.opened (omega (arith, ordered)) (omega (arith, l.ends))

-- the bytes of the segment are all there
bytes_are : (c : ℕ) (segments : List Segment) (memory : List (List ℕ)) → AreThere c segments memory → (i : ℕ) → is_open_to c (slice_get segments i) ≡ true → length (bytes_in memory i) ≡ len_of segments i
bytes_are c [] memory there i opened = absurd (true≢false (sym opened))
bytes_are c (s ∷ segments) [] there i opened = absurd there
bytes_are c (s ∷ segments) (bytes ∷ memory) there zero opened = of_test (may_read c s) opened there.0
  where
    of_test : (b : Bool) → b ≡ true → (not b || length bytes == s.len) ≡ true → length bytes ≡ s.len
    of_test true o h = grind (arith, nat_tests)
    of_test false o h = absurd (true≢false (sym o))
bytes_are c (s ∷ segments) (bytes ∷ memory) there (suc i) opened = bytes_are c segments memory there.1 i opened

pub bytes_there : (c : ℕ) (segments : List Segment) (memory : List (List ℕ)) (i : ℕ) → fits c segments memory ≡ true → is_open_to c (slice_get segments i) ≡ true → length (bytes_in memory i) ≡ len_of segments i
bytes_there c segments memory i fit opened = bytes_are c segments memory (are_there c segments memory fit) i opened

-- the image has its length
image_has : (c : ℕ) (segments : List Segment) (memory : List (List ℕ)) → AreThere c segments memory → length (image_of c segments memory) ≡ image_len segments
image_has c [] memory there = refl
image_has c (s ∷ segments) [] there = absurd there
image_has c (s ∷ []) (bytes ∷ memory) there = shown_len c s bytes there.0
image_has c (s ∷ t ∷ segments) (bytes ∷ memory) there =
    omega (arith, length-append (shown_to c s bytes) (0 ∷ image_of c (t ∷ segments) memory), shown_len c s bytes there.0, image_has c (t ∷ segments) memory there.1)

pub length_image_of : (c : ℕ) (segments : List Segment) (memory : List (List ℕ)) → fits c segments memory ≡ true → length (image_of c segments memory) ≡ image_len segments
length_image_of c segments memory fit = image_has c segments memory (are_there c segments memory fit)
