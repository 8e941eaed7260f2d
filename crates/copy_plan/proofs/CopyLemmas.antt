-- What the spans of stretches copy of memory is what they copy of its image.
use Rattle.std.proofs.Common.{◌≡◌, ℕ, zero, suc, ◌+◌, ◌-◌, ◌≤◌, true, List, [], ◌∷◌, ◌++◌, length, map, take, drop, replicate, refl, sym, ap, ◌∙◌, subst, arith, length-append}
use Rattle.std.specs.Prelude.{All, slice_range}
use Rattle.std.proofs.lemmas.List.{drop-drop, length-drop, length-replicate, take-append-drop}
use Rattle.std.proofs.lemmas.List.Concat.{flat_map-append}
use Rattle.std.proofs.lemmas.List.Elements.{All-nil, All-cons, All-head, All-tail, All-drop, All-take}
use Rattle.xcp_base.specs.declared.memory_view.MemoryView.{MemoryView}
use Rattle.xcp_base.specs.declared.memory_view.MemoryView.TheVariants.{Image, Parts}
use Rattle.xcp_base.specs.declared.stretch.Stretch.{Stretch}
use Rattle.xcp_base.specs.Copied.{AreSpansIn, AreStretches, IsSpanAt, bytes_in as part_in, copied_at, copied_from, spans_in}
use Rattle.segments.specs.declared.segment.Segment.{Segment}
use Rattle.segments.specs.Image.{image_len, image_start, lies_in}
use Rattle.segments.specs.Memory.{bytes_in, parts}
use Rattle.segments.proofs.ShownLemmas.{bytes_there, image_shows, length_image_of, lie, range_at}
use Rattle.copy_plan.specs.declared.span.Span.{Span}
use Rattle.copy_plan.specs.Inner.Spans.{HasSize, copied, span_size}
use Rattle.copy_plan.specs.Inner.Stretched.{ArePlaced, HasStart, LieInThese, SpansState, offsets_in, segments_in, sizes_in}
use Rattle.copy_plan.specs.Memory.{FitsMemory, image_in}
use Rattle.copy_plan.proofs.WrittenLemmas.{ends_inside}

abbrev Ordered : Span → Type 0
Ordered r = r.start ≤ r.end

abbrev LiesHere : ℕ → List Segment → ℕ → Span → Type 0
LiesHere c segments n r = lies_in c segments r.start r.end n ≡ true

-- where a span begins in segment n
abbrev offset : List Segment → ℕ → Span → ℕ
offset segments n r = r.start - image_start segments n

-- the spans of the first stretch lie in its segment, have its size, and their offsets count from
-- there; those behind are those of the others
pub record Split (c : ℕ) (segments : List Segment) (count n len : ℕ) (ns lens : List ℕ) (rs : List Span) : Type 0 where
  pub first : All (LiesHere c segments n) (take count rs)
  pub behind : LieInThese c segments ns (drop count rs)
  pub size : All (HasSize len) (take count rs)
  pub sizes : map span_size (drop count rs) ≡ lens
  pub front : take count (offsets_in segments (replicate count n ++ ns) rs) ≡ map (offset segments n) (take count rs)
  pub back : drop count (offsets_in segments (replicate count n ++ ns) rs) ≡ offsets_in segments ns (drop count rs)

split : (c : ℕ) (segments : List Segment) (count n size : ℕ) (ns sizes : List ℕ) (rs : List Span) → LieInThese c segments (replicate count n ++ ns) rs → map span_size rs ≡ replicate count size ++ sizes
    → Split c segments count n size ns sizes rs
split c segments zero n size ns sizes rs h e = record {
  first = All-nil (LiesHere c segments n);
  behind = h;
  size = All-nil (HasSize size);
  sizes = e;
  front = refl;
  back = refl;
}
split c segments (suc k) n size ns sizes [] h e = absurd h
split c segments (suc k) n size ns sizes (r ∷ rs) h e =
    let here : span_size r ≡ size = cc in
    let after : map span_size rs ≡ replicate k size ++ sizes = cc in
    let rest = split c segments k n size ns sizes rs h.1 after in
    record {
      first = All-cons (LiesHere c segments n) r (take k rs) h.0 rest.first;
      behind = rest.behind;
      size = All-cons (HasSize size) r (take k rs) here rest.size;
      sizes = rest.sizes;
      front = ap (λ os. offset segments n r ∷ os) rest.front;
      back = rest.back;
    }

-- a span shows the same of its stretch's part of memory as of the image, and lies within this part
pub record Shown (image part : List ℕ) (o size : ℕ) (r : Span) : Type 0 where
  pub same : slice_range part o (o + size) ≡ slice_range image r.start r.end
  pub inside : IsSpanAt (length part) size o

shown : (c : ℕ) (segments : List Segment) (memory : MemoryView) (s : Stretch) (r : Span) → FitsMemory c segments memory → HasStart segments s → LiesHere c segments s.segment r → Ordered r → HasSize s.size r
    → Shown (image_in c segments memory) (part_in memory s) (offset segments s.segment r) s.size r
shown c segments (Image image) s r fit at lies ordered size =
    let l = lie c segments r.start r.end s.segment lies in
    let o = offset segments s.segment r in
    let stop = ends_inside c segments r.start r.end s.segment l in
    record {
      same =
          ap (λ bytes. take (o + s.size - o) bytes) (drop-drop o s.start image.now)
          ∙ ap (λ k. take (o + s.size - o) (drop k image.now)) (omega (arith, at, l.begins))
          ∙ ap (λ k. take k (drop r.start image.now)) (omega (arith, size));
      inside = omega (arith, length-drop s.start image.now, fit, stop, at, l.begins, ordered, size);
    }
shown c segments (Parts memory) s r fit at lies ordered size =
    let l = lie c segments r.start r.end s.segment lies in
    let bytes : List ℕ = bytes_in (parts memory.now) s.segment in
    let o = offset segments s.segment r in
    record {
      same =
          range_at bytes o (o + s.size) o (r.end - image_start segments s.segment) refl (omega (arith, l.begins, ordered, size))
          ∙ sym (image_shows c segments (parts memory.now) r.start r.end s.segment fit l ordered);
      inside = omega (arith, l.begins, l.ends, ordered, size, bytes_there c segments (parts memory.now) s.segment fit l.opened);
    }

-- spans of one stretch copy of its part of memory what they copy of the image
copied_shown : (c : ℕ) (segments : List Segment) (memory : MemoryView) (s : Stretch) (rs : List Span) → FitsMemory c segments memory → HasStart segments s
    → All (LiesHere c segments s.segment) rs → All Ordered rs → All (HasSize s.size) rs
    → copied_at (part_in memory s) s.size (map (offset segments s.segment) rs) ≡ copied (image_in c segments memory) rs
copied_shown c segments memory s [] fit at lies ordered size = refl
copied_shown c segments memory s (r ∷ rs) fit at lies ordered size =
    let one = shown c segments memory s r fit at (All-head (LiesHere c segments s.segment) r rs lies) (All-head Ordered r rs ordered) (All-head (HasSize s.size) r rs size) in
    let more = copied_shown c segments memory s rs fit at (All-tail (LiesHere c segments s.segment) r rs lies) (All-tail Ordered r rs ordered) (All-tail (HasSize s.size) r rs size) in
    ap (λ bytes. bytes ++ copied_at (part_in memory s) s.size (map (offset segments s.segment) rs)) one.same
    ∙ ap (λ bytes. slice_range (image_in c segments memory) r.start r.end ++ bytes) more

-- and lie within it
inside_shown : (c : ℕ) (segments : List Segment) (memory : MemoryView) (s : Stretch) (rs : List Span) → FitsMemory c segments memory → HasStart segments s
    → All (LiesHere c segments s.segment) rs → All Ordered rs → All (HasSize s.size) rs
    → All (IsSpanAt (length (part_in memory s)) s.size) (map (offset segments s.segment) rs)
inside_shown c segments memory s [] fit at lies ordered size = All-nil (IsSpanAt (length (part_in memory s)) s.size)
inside_shown c segments memory s (r ∷ rs) fit at lies ordered size =
    let one = shown c segments memory s r fit at (All-head (LiesHere c segments s.segment) r rs lies) (All-head Ordered r rs ordered) (All-head (HasSize s.size) r rs size) in
    let more = inside_shown c segments memory s rs fit at (All-tail (LiesHere c segments s.segment) r rs lies) (All-tail Ordered r rs ordered) (All-tail (HasSize s.size) r rs size) in
    All-cons (IsSpanAt (length (part_in memory s)) s.size) (offset segments s.segment r) (map (offset segments s.segment) rs) one.inside more

-- what the first spans copy and what those behind copy
copied-parts : (image : List ℕ) (spans : List Span) (n : ℕ) → copied image (take n spans) ++ copied image (drop n spans) ≡ copied image spans
copied-parts image spans n =
    let copy : Span → List ℕ = λ r. slice_range image r.start r.end in
    sym (flat_map-append copy (take n spans) (drop n spans)) ∙ ap (copied image) (take-append-drop n spans)

of_stretches : (c : ℕ) (segments : List Segment) (memory : MemoryView) (stretches : List Stretch) (spans : List Span) → FitsMemory c segments memory
    → map span_size spans ≡ sizes_in stretches → LieInThese c segments (segments_in stretches) spans → All (HasStart segments) stretches → All Ordered spans
    → copied_from memory stretches (offsets_in segments (segments_in stretches) spans) ≡ copied (image_in c segments memory) spans
of_stretches c segments memory [] [] fit sizes lies starts ordered = refl
of_stretches c segments memory [] (r ∷ rs) fit sizes lies starts ordered = absurd lies
of_stretches c segments memory (s ∷ more) spans fit sizes lies starts ordered =
    let image : List ℕ = image_in c segments memory in
    let both = split c segments s.count s.segment s.size (segments_in more) (sizes_in more) spans lies sizes in
    let offsets : List ℕ = offsets_in segments (segments_in (s ∷ more)) spans in
    let here = copied_shown c segments memory s (take s.count spans) fit (All-head (HasStart segments) s more starts) both.first (All-take Ordered s.count spans ordered) both.size in
    let there = of_stretches c segments memory more (drop s.count spans) fit both.sizes both.behind (All-tail (HasStart segments) s more starts) (All-drop Ordered s.count spans ordered) in
    ap (λ os. copied_at (part_in memory s) s.size os ++ copied_from memory more (drop s.count offsets)) both.front
    ∙ ap (λ bytes. bytes ++ copied_from memory more (drop s.count offsets)) here
    ∙ ap (λ os. copied image (take s.count spans) ++ copied_from memory more os) both.back
    ∙ ap (λ bytes. copied image (take s.count spans) ++ bytes) there
    ∙ copied-parts image spans s.count

pub copied_of_memory : (c : ℕ) (segments : List Segment) (memory : MemoryView) (s : SpansState) → FitsMemory c segments memory → ArePlaced c segments s → All Ordered s.spans
    → copied_from memory s.stretches s.offsets ≡ copied (image_in c segments memory) s.spans
copied_of_memory c segments memory s fit placed ordered =
    ap (copied_from memory s.stretches) placed.offsets ∙ of_stretches c segments memory s.stretches s.spans fit placed.sizes placed.lie placed.starts ordered

-- the spans lie within the parts of memory of their stretches
in_stretches : (c : ℕ) (segments : List Segment) (memory : MemoryView) (stretches : List Stretch) (spans : List Span) → FitsMemory c segments memory
    → map span_size spans ≡ sizes_in stretches → LieInThese c segments (segments_in stretches) spans → All (HasStart segments) stretches → All Ordered spans
    → AreSpansIn memory stretches (offsets_in segments (segments_in stretches) spans)
in_stretches c segments memory [] spans fit sizes lies starts ordered = tt
in_stretches c segments memory (s ∷ more) spans fit sizes lies starts ordered =
    let both = split c segments s.count s.segment s.size (segments_in more) (sizes_in more) spans lies sizes in
    let here = inside_shown c segments memory s (take s.count spans) fit (All-head (HasStart segments) s more starts) both.first (All-take Ordered s.count spans ordered) both.size in
    let there = in_stretches c segments memory more (drop s.count spans) fit both.sizes both.behind (All-tail (HasStart segments) s more starts) (All-drop Ordered s.count spans ordered) in
    (subst (All (IsSpanAt (length (part_in memory s)) s.size)) (sym both.front) here, subst (AreSpansIn memory more) (sym both.back) there)

pub spans_in_memory : (c : ℕ) (segments : List Segment) (memory : MemoryView) (s : SpansState) → FitsMemory c segments memory → ArePlaced c segments s → All Ordered s.spans
    → AreSpansIn memory s.stretches s.offsets
spans_in_memory c segments memory s fit placed ordered =
    subst (AreSpansIn memory s.stretches) (sym placed.offsets) (in_stretches c segments memory s.stretches s.spans fit placed.sizes placed.lie placed.starts ordered)

-- there are as many offsets as spans, and as the stretches have
length-offsets_in : (c : ℕ) (segments : List Segment) (ns : List ℕ) (rs : List Span) → LieInThese c segments ns rs → (length (offsets_in segments ns rs) ≡ length ns) × (length ns ≡ length rs)
length-offsets_in c segments [] [] h = (refl, refl)
length-offsets_in c segments [] (r ∷ rs) h = absurd h
length-offsets_in c segments (n ∷ ns) [] h = absurd h
length-offsets_in c segments (n ∷ ns) (r ∷ rs) h =
    let rest = length-offsets_in c segments ns rs h.1 in
    (ap suc rest.0, ap suc rest.1)

length-segments_in : (stretches : List Stretch) → length (segments_in stretches) ≡ spans_in stretches
length-segments_in [] = refl
length-segments_in (s ∷ more) =
    length-append (replicate s.count s.segment) (segments_in more)
    ∙ omega (arith, length-replicate s.count s.segment, length-segments_in more)

pub placed_stretches : (c : ℕ) (segments : List Segment) (s : SpansState) → ArePlaced c segments s → AreStretches s.stretches s.offsets
placed_stretches c segments s placed =
    ap length placed.offsets ∙ (length-offsets_in c segments (segments_in s.stretches) s.spans placed.lie).0 ∙ length-segments_in s.stretches

pub length-offsets : (c : ℕ) (segments : List Segment) (s : SpansState) → ArePlaced c segments s → length s.offsets ≡ length s.spans
length-offsets c segments s placed =
    let both = length-offsets_in c segments (segments_in s.stretches) s.spans placed.lie in
    ap length placed.offsets ∙ both.0 ∙ both.1

-- the image has its length
pub fits_len : (c : ℕ) (segments : List Segment) (memory : MemoryView) → FitsMemory c segments memory → length (image_in c segments memory) ≡ image_len segments
fits_len c segments (Image image) fit = fit
fits_len c segments (Parts memory) fit = length_image_of c segments (parts memory.now) fit
