-- The spans of an ODT copy the bytes of its entries, and there are as many as the ODT needs.
use Rattle.std.proofs.Common.{inl, inr, Option, map, Bool, true, false, ◌==◌, not, cond, ◌≡◌, ◌≢◌, true≢false, ℕ, ◌+◌, ◌-◌, ◌<◌, ◌≤◌, List, [], ◌∷◌, ◌++◌, length, take, drop, zip, refl, sym, ap, ◌∙◌, append_assoc, arith}
use Rattle.std.specs.Prelude.{All, slice_range, count_by}
use Rattle.std.proofs.Math.Seq.{take-add}
use Rattle.std.proofs.lemmas.List.{drop-drop}
use Rattle.std.proofs.lemmas.List.Sums.{sum_by-cons}
use Rattle.std.proofs.lemmas.List.Elements.{All-nil, All-cons, All-head, All-tail}
use Rattle.std.proofs.lemmas.Bool.Decides.{eqb_tells}
use Rattle.copy_plan.specs.declared.span.Span.{Span}
use Rattle.daq_store.specs.declared.entry.Entry.{Entry}
use Rattle.copy_plan.specs.Config.{OdtEntry, IsInside, written_entries}
use Rattle.copy_plan.specs.Packet.{elements}
use Rattle.copy_plan.specs.Copies.{continues, copies_needed}
use Rattle.copy_plan.specs.Inner.Spans.{copied, IsSpanInside}
use Rattle.copy_plan.specs.Inner.Joined.{with_bytes, joined_spans}
use Rattle.copy_plan.specs.Inner.Stretched.{LiesSomewhere}
use Rattle.segments.specs.declared.segment.Segment.{Segment}
use Rattle.segments.specs.Image.{image_start}
use Rattle.segments.specs.Places.{len_of}
use Rattle.segments.proofs.PlaceLemmas.{touch}
use Rattle.segments.proofs.ShownLemmas.{Lie, lie, lies_if}
use Rattle.copy_plan.proofs.WrittenLemmas.{LiesAt}

-- bytes that end where the first span begins are joined with it, other bytes are a span of their own
joins : (start end : ℕ) (r : Span) (rs : List Span) → r.start ≡ end → with_bytes start end (r ∷ rs) ≡ record { start = start; end = r.end } ∷ rs
joins start end r rs h =
    elim (eqb_tells r.start end) [ inl t ↦ rw t.0 refl | inr t ↦ absurd (t.1 h) ]

stands_apart : (start end : ℕ) (r : Span) (rs : List Span) → r.start ≢ end → with_bytes start end (r ∷ rs) ≡ record { start = start; end = end } ∷ r ∷ rs
stands_apart start end r rs h =
    elim (eqb_tells r.start end) [ inl t ↦ absurd (h t.1) | inr t ↦ rw t.0 refl ]

-- the first of the spans with bytes before them begins where these do
pub record Begins (rs : List Span) (start : ℕ) : Type 0 where
  pub end : ℕ
  pub rest : List Span
  pub is : rs ≡ record { start = start; end = end } ∷ rest

pub begins : (start end : ℕ) (rs : List Span) → Begins (with_bytes start end rs) start
begins start end [] = record { end = end; rest = []; is = refl }
begins start end (r ∷ rs) =
    elim (eqb_tells r.start end) [
      | inl t ↦ record { end = r.end; rest = rs; is = joins start end r rs t.1 }
      | inr t ↦ record { end = end; rest = r ∷ rs; is = stands_apart start end r rs t.1 }
    ]

-- an entry that begins at the end of the bytes before it is joined with them
pub with_bytes-joined : (start mid end : ℕ) (rs : List Span) → with_bytes start mid (with_bytes mid end rs) ≡ with_bytes start end rs
with_bytes-joined start mid end [] = joins start mid (record { start = mid; end = end }) [] refl
with_bytes-joined start mid end (r ∷ rs) =
    elim (eqb_tells r.start end) [
      | inl t ↦
          ap (with_bytes start mid) (joins mid end r rs t.1)
          ∙ joins start mid (record { start = mid; end = r.end }) rs refl
          ∙ sym (joins start end r rs t.1)
      | inr t ↦
          ap (with_bytes start mid) (stands_apart mid end r rs t.1)
          ∙ joins start mid (record { start = mid; end = end }) (r ∷ rs) refl
          ∙ sym (stands_apart start end r rs t.1)
    ]

-- one that begins elsewhere is not
pub with_bytes-apart : (start end next last : ℕ) (rs : List Span) → next ≢ end → with_bytes start end (with_bytes next last rs) ≡ record { start = start; end = end } ∷ with_bytes next last rs
with_bytes-apart start end next last rs h =
    let first : Begins (with_bytes next last rs) next = begins next last rs in
    rw (first.is) (stands_apart start end (record { start = next; end = first.end }) first.rest h)

-- two neighbouring parts are one part
slice_range-join : (xs : List ℕ) (a b c : ℕ) → a ≤ b → b ≤ c → slice_range xs a b ++ slice_range xs b c ≡ slice_range xs a c
slice_range-join xs a b c h k =
    let there : drop b xs ≡ drop (b - a) (drop a xs) = ap (λ n. drop n xs) (omega arith) ∙ sym (drop-drop (b - a) a xs) in
    ap (λ rest. take (b - a) (drop a xs) ++ take (c - b) rest) there
    ∙ sym (take-add (b - a) (c - b) (drop a xs))
    ∙ ap (λ n. take n (drop a xs)) (omega arith)

-- what spans with bytes before them copy
copied-with_bytes : (image : List ℕ) (start end : ℕ) (rs : List Span) → start ≤ end → All (λ (r : Span). r.start ≤ r.end) rs → copied image (with_bytes start end rs) ≡ slice_range image start end ++ copied image rs
copied-with_bytes image start end [] h each = refl
copied-with_bytes image start end (r ∷ rs) h each =
    let ordered : r.start ≤ r.end = All-head (λ (r : Span). r.start ≤ r.end) r rs each in
    elim (eqb_tells r.start end) [
      | inl t ↦
          let there : slice_range image start end ++ slice_range image r.start r.end ≡ slice_range image start r.end
          = ap (λ n. slice_range image start end ++ slice_range image n r.end) t.1 ∙ slice_range-join image start end r.end h (omega (arith, ordered, t.1)) in
          ap (copied image) (joins start end r rs t.1)
          ∙ ap (λ bytes. bytes ++ copied image rs) (sym there)
          ∙ append_assoc (slice_range image start end) (slice_range image r.start r.end) (copied image rs)
      | inr t ↦ ap (copied image) (stands_apart start end r rs t.1)
    ]

ordered-with_bytes : (start end : ℕ) (rs : List Span) → start ≤ end → All (λ (r : Span). r.start ≤ r.end) rs → All (λ (r : Span). r.start ≤ r.end) (with_bytes start end rs)
ordered-with_bytes start end [] h each =
    let P : Span → Type 0 = λ r. r.start ≤ r.end in
    All-cons P (record { start = start; end = end }) [] h each
ordered-with_bytes start end (r ∷ rs) h each =
    let P : Span → Type 0 = λ r. r.start ≤ r.end in
    let ordered : r.start ≤ r.end = All-head P r rs each in
    elim (eqb_tells r.start end) [
      | inl t ↦
          rw (joins start end r rs t.1) (All-cons P (record { start = start; end = r.end }) rs (omega (arith, h, ordered, t.1)) (All-tail P r rs each))
      | inr t ↦ rw (stands_apart start end r rs t.1) (All-cons P (record { start = start; end = end }) (r ∷ rs) h each)
    ]

pub ordered-joined_spans : (es : List OdtEntry) → All (λ (r : Span). r.start ≤ r.end) (joined_spans es)
ordered-joined_spans [] = All-nil (λ (r : Span). r.start ≤ r.end)
ordered-joined_spans (e ∷ es) = ordered-with_bytes e.0 (e.0 + e.1) (joined_spans es) (omega arith) (ordered-joined_spans es)

-- the spans copy what the entries are
pub copied-joined_spans : (image : List ℕ) (es : List OdtEntry) → copied image (joined_spans es) ≡ elements image es
copied-joined_spans image [] = refl
copied-joined_spans image (e ∷ es) =
    copied-with_bytes image e.0 (e.0 + e.1) (joined_spans es) (omega arith) (ordered-joined_spans es)
    ∙ ap (λ bytes. slice_range image e.0 (e.0 + e.1) ++ bytes) (copied-joined_spans image es)

-- spans of entries within the image lie within the image
inside-with_bytes : (n start end : ℕ) (rs : List Span) → start ≤ end → end ≤ n → All (IsSpanInside n) rs → All (IsSpanInside n) (with_bytes start end rs)
inside-with_bytes n start end [] h k each =
    All-cons (IsSpanInside n) (record { start = start; end = end }) [] (record { ordered = h; inside = k }) each
inside-with_bytes n start end (r ∷ rs) h k each =
    let here : IsSpanInside n r = All-head (IsSpanInside n) r rs each in
    elim (eqb_tells r.start end) [
      | inl t ↦
          let long : IsSpanInside n (record { start = start; end = r.end }) = record { ordered = omega (arith, h, here.ordered, t.1); inside = here.inside } in
          rw (joins start end r rs t.1) (All-cons (IsSpanInside n) (record { start = start; end = r.end }) rs long (All-tail (IsSpanInside n) r rs each))
      | inr t ↦ rw (stands_apart start end r rs t.1) (All-cons (IsSpanInside n) (record { start = start; end = end }) (r ∷ rs) (record { ordered = h; inside = k }) each)
    ]

pub inside-joined_spans : (n : ℕ) (es : List OdtEntry) → All (IsInside n) es → All (IsSpanInside n) (joined_spans es)
inside-joined_spans n [] each = All-nil (IsSpanInside n)
inside-joined_spans n (e ∷ es) each =
    inside-with_bytes n e.0 (e.0 + e.1) (joined_spans es) (omega arith) (All-head (IsInside n) e es each) (inside-joined_spans n es (All-tail (IsInside n) e es each))

count_by-cons : {X : Type 0} (p : X → Bool) (x : X) (xs : List X) → count_by p (x ∷ xs) ≡ cond (p x) 1 0 + count_by p xs
count_by-cons p x xs = sum_by-cons (λ y. cond (p y) 1 0) x xs

-- there is one span for each entry that does not go on where the one before it ends
pub length-joined_spans : (es : List OdtEntry) → 0 < length es → length (joined_spans es) ≡ copies_needed es
length-joined_spans [] h = absurd (omega (arith, h))
length-joined_spans (e ∷ []) h = refl
length-joined_spans (e ∷ f ∷ es) h =
    let first : Begins (joined_spans (f ∷ es)) f.0 = begins f.0 (f.0 + f.1) (joined_spans es) in
    let ih : length (joined_spans (f ∷ es)) ≡ copies_needed (f ∷ es) = length-joined_spans (f ∷ es) (omega arith) in
    let r : Span = record { start = f.0; end = first.end } in
    let more : copies_needed (e ∷ f ∷ es) ≡ cond (not (continues (e, f))) 1 0 + copies_needed (f ∷ es)
    = ap (λ n. 1 + n) (count_by-cons (λ (pair : OdtEntry × OdtEntry). not (continues pair)) (e, f) (zip (f ∷ es) es)) ∙ omega arith in
    elim (eqb_tells f.0 (e.0 + e.1)) [
      | inl t ↦
          let one : ◌≡◌ {A = ℕ} (cond (not (continues (e, f))) 1 0) 0 = rw t.0 refl in
          let is : joined_spans (e ∷ f ∷ es) ≡ record { start = e.0; end = first.end } ∷ first.rest
          = ap (with_bytes e.0 (e.0 + e.1)) first.is ∙ joins e.0 (e.0 + e.1) r first.rest t.1 in
          omega (arith, ap length is, ap length first.is, ih, more, one)
      | inr t ↦
          let one : ◌≡◌ {A = ℕ} (cond (not (continues (e, f))) 1 0) 1 = rw t.0 refl in
          let is : joined_spans (e ∷ f ∷ es) ≡ record { start = e.0; end = e.0 + e.1 } ∷ r ∷ first.rest
          = ap (with_bytes e.0 (e.0 + e.1)) first.is ∙ stands_apart e.0 (e.0 + e.1) r first.rest t.1 in
          omega (arith, ap length is, ap length first.is, ih, more, one)
    ]

-- one entry more: apart from the bytes in hand, these become a span; else it is joined with them
pub one_apart : (spans all : List Span) (start end : ℕ) (e : OdtEntry) (es : List OdtEntry) → spans ++ with_bytes start end (joined_spans (e ∷ es)) ≡ all → e.0 ≢ end → (spans ++ record { start = start; end = end } ∷ []) ++ with_bytes e.0 (e.0 + e.1) (joined_spans es) ≡ all
one_apart spans all start end e es is h =
    append_assoc spans (record { start = start; end = end } ∷ []) (with_bytes e.0 (e.0 + e.1) (joined_spans es))
    ∙ ap (λ rs. spans ++ rs) (sym (with_bytes-apart start end e.0 (e.0 + e.1) (joined_spans es) h))
    ∙ is

pub one_joined : (spans all : List Span) (start end : ℕ) (e : OdtEntry) (es : List OdtEntry) → spans ++ with_bytes start end (joined_spans (e ∷ es)) ≡ all → e.0 ≡ end → spans ++ with_bytes start (e.0 + e.1) (joined_spans es) ≡ all
one_joined spans all start end e es is h =
    ap (λ rs. spans ++ rs) (sym (with_bytes-joined start e.0 (e.0 + e.1) (joined_spans es)))
    ∙ ap (λ n. spans ++ with_bytes start n (joined_spans (e ∷ es))) h
    ∙ is

-- the spans of each of some ODTs
pub map-joined_spans-written_entries : (c : ℕ) (segments : List Segment) (odts : List (List (Option Entry))) → map (λ es. joined_spans (written_entries c segments es)) odts ≡ map joined_spans (map (written_entries c segments) odts)
map-joined_spans-written_entries c segments [] = refl
map-joined_spans-written_entries c segments (es ∷ odts) = ap (λ rest. joined_spans (written_entries c segments es) ∷ rest) (map-joined_spans-written_entries c segments odts)

-- spans of entries that lie in segments lie in segments
lie-with_bytes : (c : ℕ) (segments : List Segment) (start end i : ℕ) (rs : List Span) → start ≤ end → Lie c segments start end i → All (LiesSomewhere c segments) rs → All (LiesSomewhere c segments) (with_bytes start end rs)
lie-with_bytes c segments start end i [] h l each =
    All-cons (LiesSomewhere c segments) (record { start = start; end = end }) [] (record { ordered = h; segment = i; lies = lies_if c segments start end i l }) each
lie-with_bytes c segments start end i (r ∷ rs) h l each =
    let here : LiesSomewhere c segments r = All-head (LiesSomewhere c segments) r rs each in
    let m : Lie c segments r.start r.end here.segment = lie c segments r.start r.end here.segment here.lies in
    elim (eqb_tells r.start end) [
      | inl t ↦
          let n : Lie c segments end r.end here.segment = record { opened = m.opened; begins = omega (arith, m.begins, t.1); ends = m.ends } in
          let one : i ≡ here.segment = touch c segments start end r.end i here.segment h (omega (arith, here.ordered, t.1)) l n in
          let both : Lie c segments start r.end i = record {
            opened = l.opened;
            begins = l.begins;
            ends = omega (arith, m.ends, ap (image_start segments) one, ap (len_of segments) one);
          } in
          let long : LiesSomewhere c segments (record { start = start; end = r.end }) = record { ordered = omega (arith, h, here.ordered, t.1); segment = i; lies = lies_if c segments start r.end i both } in
          rw (joins start end r rs t.1) (All-cons (LiesSomewhere c segments) (record { start = start; end = r.end }) rs long (All-tail (LiesSomewhere c segments) r rs each))
      | inr t ↦ rw (stands_apart start end r rs t.1) (All-cons (LiesSomewhere c segments) (record { start = start; end = end }) (r ∷ rs) (record { ordered = h; segment = i; lies = lies_if c segments start end i l }) each)
    ]

pub lie-joined_spans : (c : ℕ) (segments : List Segment) (es : List OdtEntry) → All (LiesAt c segments) es → All (LiesSomewhere c segments) (joined_spans es)
lie-joined_spans c segments [] each = All-nil (LiesSomewhere c segments)
lie-joined_spans c segments (e ∷ es) each =
    let first : LiesAt c segments e = All-head (LiesAt c segments) e es each in
    lie-with_bytes c segments e.0 (e.0 + e.1) first.segment (joined_spans es) (omega arith) first.lies (lie-joined_spans c segments es (All-tail (LiesAt c segments) e es each))

-- what the test of two places tells
pub apart_if : (a b : ℕ) → (a == b) ≡ false → a ≢ b
apart_if a b h = elim (eqb_tells a b) [ inl t ↦ absurd (true≢false (sym t.0 ∙ h)) | inr t ↦ t.1 ]

pub same_if : (a b : ℕ) → (a == b) ≡ true → a ≡ b
same_if a b h = elim (eqb_tells a b) [ inl t ↦ t.1 | inr t ↦ absurd (true≢false (sym h ∙ t.0)) ]
