-- Stretches of spans, one span more at a time.
use Rattle.std.proofs.Common.{◌≡◌, ℕ, zero, suc, ◌+◌, ◌-◌, ◌<◌, ◌≤◌, List, [], ◌∷◌, ◌++◌, map, replicate, refl, sym, ap, ◌∙◌, arith, append-nil, append_assoc, add-one, true, subst, ◌&&◌, ◌==◌}
use Rattle.std.specs.Prelude.{All, flat_map}
use Rattle.std.proofs.lemmas.Bool.{and_parts}
use Rattle.std.proofs.lemmas.Bool.Decides.{nat_tests}
use Rattle.std.proofs.lemmas.List.Concat.{flat_map-append}
use Rattle.std.proofs.lemmas.List.Elements.{All-append, All-cons, All-nil, All-head, All-tail}
use Rattle.copy_plan.specs.declared.span.Span.{Span}
use Rattle.xcp_base.specs.declared.stretch.Stretch.{Stretch}
use Rattle.copy_plan.specs.Inner.Spans.{span_size}
use Rattle.segments.specs.declared.segment.Segment.{Segment}
use Rattle.segments.specs.Image.{image_start, lies_in}
use Rattle.segments.proofs.PlaceLemmas.{touch}
use Rattle.segments.proofs.ShownLemmas.{lie}
use Rattle.copy_plan.specs.Inner.Stretched.{ArePlaced, HasStart, IsNear, IsStretchAt, LieInThese, offsets_in, segments_in, sizes_in}

replicate_more : {X : Type 0} (n : ℕ) (x : X) → replicate (n + 1) x ≡ replicate n x ++ x ∷ []
replicate_more zero x = refl
replicate_more (suc n) x = rw add-one (ap (λ xs. x ∷ xs) (rw add-one at (replicate_more n x)))

pub map_one : {X Y : Type 0} (f : X → Y) (xs : List X) (x : X) → map f (xs ++ x ∷ []) ≡ map f xs ++ f x ∷ []
map_one f [] x = refl
map_one f (y ∷ xs) x = ap (λ ys. f y ∷ ys) (map_one f xs x)

-- what the last of some stretches adds
each_one : {X : Type 0} (f : Stretch → List X) (st : List Stretch) (s : Stretch) → flat_map f (st ++ s ∷ []) ≡ flat_map f st ++ f s
each_one f st s = flat_map-append f st (s ∷ []) ∙ ap (λ xs. flat_map f st ++ xs) (append-nil (f s))

-- one span more lies in its segment
lie_more : (c : ℕ) (segments : List Segment) (ns : List ℕ) (rs : List Span) (n : ℕ) (r : Span) → LieInThese c segments ns rs → lies_in c segments r.start r.end n ≡ true
    → LieInThese c segments (ns ++ n ∷ []) (rs ++ r ∷ [])
lie_more c segments [] [] n r h one = (one, tt)
lie_more c segments [] (q ∷ rs) n r h one = absurd h
lie_more c segments (m ∷ ns) [] n r h one = absurd h
lie_more c segments (m ∷ ns) (q ∷ rs) n r h one = (h.0, lie_more c segments ns rs n r h.1 one)

-- and its offset counts from there
offsets_more : (c : ℕ) (segments : List Segment) (ns : List ℕ) (rs : List Span) (n : ℕ) (r : Span) → LieInThese c segments ns rs
    → offsets_in segments (ns ++ n ∷ []) (rs ++ r ∷ []) ≡ offsets_in segments ns rs ++ (r.start - image_start segments n) ∷ []
offsets_more c segments [] [] n r h = refl
offsets_more c segments [] (q ∷ rs) n r h = absurd h
offsets_more c segments (m ∷ ns) [] n r h = absurd h
offsets_more c segments (m ∷ ns) (q ∷ rs) n r h = ap (λ os. (q.start - image_start segments m) ∷ os) (offsets_more c segments ns rs n r h.1)

abbrev pub stretch_with : Stretch → Stretch
stretch_with s = record s { count = s.count + 1 }

-- the last stretch has one span more
grown : {X : Type 0} (f : Stretch → X) (st : List Stretch) (s : Stretch) → f (stretch_with s) ≡ f s
    → flat_map (λ (t : Stretch). replicate t.count (f t)) (st ++ stretch_with s ∷ []) ≡ flat_map (λ (t : Stretch). replicate t.count (f t)) (st ++ s ∷ []) ++ f s ∷ []
grown f st s same =
    let g : Stretch → List _ = λ t. replicate t.count (f t) in
    each_one g st (stretch_with s)
    ∙ ap (λ xs. flat_map g st ++ xs) (ap (replicate (s.count + 1)) same ∙ replicate_more s.count (f s))
    ∙ sym (append_assoc (flat_map g st) (replicate s.count (f s)) (f s ∷ []))
    ∙ ap (λ xs. xs ++ f s ∷ []) (sym (each_one g st s))

pub span_more : (c : ℕ) (segments : List Segment) (st : List Stretch) (s next : Stretch) (rs : List Span) (os : List ℕ) (r : Span)
    → ArePlaced c segments (record { spans = rs; stretches = st ++ s ∷ []; offsets = os }) → IsStretchAt c segments r next → s.size ≡ next.size → s.segment ≡ next.segment
    → ArePlaced c segments (record { spans = rs ++ r ∷ []; stretches = st ++ stretch_with s ∷ []; offsets = os ++ (r.start - next.start) ∷ [] })
span_more c segments st s next rs os r h at size segment = record {
  sizes =
      map_one span_size rs r ∙ ap (λ xs. xs ++ span_size r ∷ []) h.sizes
      ∙ ap (λ n. sizes_in (st ++ s ∷ []) ++ n ∷ []) (sym at.size ∙ sym size)
      ∙ sym (grown (λ (t : Stretch). t.size) st s refl);
  lie =
      let lies : lies_in c segments r.start r.end s.segment ≡ true = ap (lies_in c segments r.start r.end) segment ∙ at.lies in
      subst (λ ns. LieInThese c segments ns (rs ++ r ∷ [])) (sym (grown (λ (t : Stretch). t.segment) st s refl)) (lie_more c segments (segments_in (st ++ s ∷ [])) rs s.segment r h.lie lies);
  starts =
      All-append (HasStart segments) st (stretch_with s ∷ []) (first_of st s h.starts) (All-cons (HasStart segments) (stretch_with s) [] (last_of st s h.starts) (All-nil (HasStart segments)));
  offsets =
      let from : next.start ≡ image_start segments s.segment = at.start ∙ ap (image_start segments) (sym segment) in
      ap (λ n. os ++ (r.start - n) ∷ []) from
      ∙ ap (λ xs. xs ++ (r.start - image_start segments s.segment) ∷ []) h.offsets
      ∙ sym (offsets_more c segments (segments_in (st ++ s ∷ [])) rs s.segment r h.lie)
      ∙ ap (λ ns. offsets_in segments ns (rs ++ r ∷ [])) (sym (grown (λ (t : Stretch). t.segment) st s refl));
}
  where
    first_of : (st : List Stretch) (s : Stretch) → All (HasStart segments) (st ++ s ∷ []) → All (HasStart segments) st
    first_of [] s all = All-nil (HasStart segments)
    first_of (t ∷ st) s all = All-cons (HasStart segments) t st (All-head (HasStart segments) t (st ++ s ∷ []) all) (first_of st s (All-tail (HasStart segments) t (st ++ s ∷ []) all))

    last_of : (st : List Stretch) (s : Stretch) → All (HasStart segments) (st ++ s ∷ []) → HasStart segments s
    last_of [] s all = All-head (HasStart segments) s [] all
    last_of (t ∷ st) s all = last_of st s (All-tail (HasStart segments) t (st ++ s ∷ []) all)

-- a stretch of no spans, and then of one
empty_adds : {X : Type 0} (f : Stretch → X) (st : List Stretch) (s : Stretch) → s.count ≡ 0 → flat_map (λ (t : Stretch). replicate t.count (f t)) (st ++ s ∷ []) ≡ flat_map (λ (t : Stretch). replicate t.count (f t)) st
empty_adds f st s none =
    let g : Stretch → List _ = λ t. replicate t.count (f t) in
    each_one g st s ∙ ap (λ n. flat_map g st ++ replicate n (f s)) none ∙ append-nil (flat_map g st)

pub stretch_more : (c : ℕ) (segments : List Segment) (st : List Stretch) (next : Stretch) (rs : List Span) (os : List ℕ) (r : Span)
    → ArePlaced c segments (record { spans = rs; stretches = st; offsets = os }) → IsStretchAt c segments r next
    → ArePlaced c segments (record { spans = rs; stretches = st ++ next ∷ []; offsets = os })
stretch_more c segments st next rs os r h at = record {
  sizes = h.sizes ∙ sym (empty_adds (λ (t : Stretch). t.size) st next at.none);
  lie = subst (λ ns. LieInThese c segments ns rs) (sym (empty_adds (λ (t : Stretch). t.segment) st next at.none)) h.lie;
  starts = All-append (HasStart segments) st (next ∷ []) h.starts (All-cons (HasStart segments) next [] at.start (All-nil (HasStart segments)));
  offsets = h.offsets ∙ ap (λ ns. offsets_in segments ns rs) (sym (empty_adds (λ (t : Stretch). t.segment) st next at.none));
}

pub no_spans : (c : ℕ) (segments : List Segment) → ArePlaced c segments (record { spans = []; stretches = []; offsets = [] })
no_spans c segments = record { sizes = refl; lie = tt; starts = All-nil (HasStart segments); offsets = refl }

-- a span that begins near begins near the start of the one segment that it lies in
pub record Near (r : Span) (start : ℕ) : Type 0 where
  pub begins : start ≤ r.start
  pub near : r.start - start < 4294967296

pub near_in : (c : ℕ) (segments : List Segment) (r : Span) (s : Stretch) → r.start ≤ r.end → IsNear c segments r.start → IsStretchAt c segments r s → Near r s.start
near_in c segments r s ordered n at =
    let here = lie c segments r.start r.start n.segment n.lies in
    let own = lie c segments r.start r.end s.segment at.lies in
    let one : n.segment ≡ s.segment = touch c segments r.start r.start r.end n.segment s.segment (omega arith) ordered here own in
    record {
      begins = omega (arith, own.begins, at.start);
      near = omega (arith, n.near, at.start, ap (image_start segments) one);
    }

-- what the test of two stretches tells
pub same_both : (s next : Stretch) → (s.size == next.size && s.segment == next.segment) ≡ true → (s.size ≡ next.size) × (s.segment ≡ next.segment)
same_both s next h =
    let both = and_parts (s.size == next.size) (s.segment == next.segment) h in
    let size = both.0 in
    let segment = both.1 in
    (grind (arith, nat_tests, size), grind (arith, nat_tests, segment))

abbrev pub no_span : Span
no_span = record { start = 0; end = 0 }
