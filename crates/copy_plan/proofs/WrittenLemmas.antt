-- The written entries of an ODT, one by one, and what a ready list says of them.
use Rattle.std.proofs.Common.{true, false, ◌≡◌, ℕ, zero, suc, ◌+◌, ◌<◌, ◌≤◌, List, [], ◌∷◌, length, drop, refl, sym, ap, ◌∙◌, add-one, zero-add, arith, Option, Some, None}
use Rattle.std.specs.Prelude.{All, IsSome, slice_get, option_map, option_and_then, sum_by, unwrap_or}
use Rattle.std.specs.List.{list_all}
use Rattle.std.proofs.lemmas.List.Sums.{sum_by-cons}
use Rattle.std.proofs.lemmas.List.Elements.{All-nil, All-cons, All-head}
use Rattle.std.proofs.lemmas.Bool.{and_parts}
use Rattle.segments.specs.declared.segment.Segment.{Segment}
use Rattle.segments.specs.Image.{image_len, image_place}
use Rattle.segments.proofs.FitLemmas.{no_segment}
use Rattle.segments.proofs.ImageLemmas.{ends_within, len_at}
use Rattle.segments.proofs.PlaceLemmas.{placed as placed_at, placed_lies, there_if_open}
use Rattle.segments.proofs.ReadLemmas.{has_place}
use Rattle.segments.proofs.ShownLemmas.{Lie, lies_if}
use Rattle.daq_store.specs.declared.entry.Entry.{Entry}
use Rattle.daq_store.specs.Configuration.{is_within, entry_len}
use Rattle.copy_plan.specs.Config.{OdtEntry, placed, written_entries, IsInside, IsReadable}
use Rattle.copy_plan.specs.Inner.Stretched.{AreEndsOf, IsNear}

-- how place i of some entries is shown
abbrev pub shown : ℕ → List Segment → List (Option Entry) → ℕ → Option OdtEntry
shown c segments es i = option_map (placed c segments) (option_and_then (λ entry. entry) (slice_get es i))

-- an entry that is shown is the next one that is written
pub written_entries-drop : (c : ℕ) (segments : List Segment) (es : List (Option Entry)) (i : ℕ) (e : OdtEntry) → Some e ≡ shown c segments es i → written_entries c segments (drop i es) ≡ e ∷ written_entries c segments (drop (i + 1) es)
written_entries-drop c segments [] i e h = absurd (cc)
written_entries-drop c segments (Some x ∷ es) zero e h = let is : placed c segments x ≡ e = cc in ap (λ (p : OdtEntry). p ∷ written_entries c segments es) is
written_entries-drop c segments (None ∷ es) zero e h = absurd (cc)
written_entries-drop c segments (x ∷ es) (suc i) e h = rw add-one (rw add-one at (written_entries-drop c segments es i e h))

-- an entry with its two ends is shown by its first end and its size
pub record ShownBy (c : ℕ) (segments : List Segment) (es : List (Option Entry)) (i : ℕ) (ends : ℕ × ℕ) : Type 0 where
  pub size : ℕ
  pub is : Some (ends.0, size) ≡ shown c segments es i
  pub end : ends.0 + size ≡ ends.1

pub shown_by : (c : ℕ) (segments : List Segment) (es : List (Option Entry)) (i : ℕ) (ends : ℕ × ℕ) → AreEndsOf c segments (option_and_then (λ entry. entry) (slice_get es i)) ends → ShownBy c segments es i ends
shown_by c segments es i ends h = of_entry (option_and_then (λ entry. entry) (slice_get es i)) refl h
  where
    of_entry : (o : Option Entry) → option_and_then (λ entry. entry) (slice_get es i) ≡ o → AreEndsOf c segments o ends → ShownBy c segments es i ends
    of_entry None e h = absurd h
    of_entry (Some x) e h = record {
      size = x.size;
      is = ap (λ (at : Option ℕ). Some (unwrap_or at 0, x.size)) (sym h.0) ∙ sym (ap (option_map (placed c segments)) e);
      end = sym h.1;
    }

-- each entry that is read is written
pub IsSome-within : (c : ℕ) (segments : List Segment) (es : List (Option Entry)) → list_all (is_within c segments) es ≡ true → All IsSome es
IsSome-within c segments [] h = All-nil IsSome
IsSome-within c segments (Some x ∷ es) h =
    All-cons IsSome (Some x) es refl (IsSome-within c segments es (and_parts _ _ h).1)
IsSome-within c segments (None ∷ es) h = absurd (cc)

-- an entry of those that are read
pub record WithinAt (c : ℕ) (segments : List Segment) (o : Option Entry) : Type 0 where
  pub entry : Entry
  pub is : o ≡ Some entry
  pub at : ℕ
  pub place : image_place c segments entry.extension entry.address entry.size ≡ Some at

pub within_at : (c : ℕ) (segments : List Segment) (es : List (Option Entry)) (i : ℕ) → list_all (is_within c segments) es ≡ true → i < length es → WithinAt c segments (option_and_then (λ entry. entry) (slice_get es i))
within_at c segments [] i h inside = absurd (omega (arith, inside))
within_at c segments (None ∷ es) i h inside = absurd (cc)
within_at c segments (Some x ∷ es) zero h inside =
    let place = has_place c segments x.extension x.address x.size (and_parts (is_within c segments (Some x)) (list_all (is_within c segments) es) h).0 in
    record { entry = x; is = refl; at = place.at; place = place.is }
within_at c segments (Some x ∷ es) (suc i) h inside = within_at c segments es i (and_parts (is_within c segments (Some x)) (list_all (is_within c segments) es) h).1 (omega (arith, inside))

-- bytes in a segment end within the image
pub ends_inside : (c : ℕ) (segments : List Segment) (start end i : ℕ) → Lie c segments start end i → end ≤ image_len segments
ends_inside c segments start end i l =
    let there = there_if_open c segments i l.opened in
    omega (arith, l.ends, len_at segments i no_segment there, ends_within segments i no_segment there)

-- an entry that is read lies in a segment
pub record LiesAt (c : ℕ) (segments : List Segment) (e : OdtEntry) : Type 0 where
  pub segment : ℕ
  pub lies : Lie c segments e.0 (e.0 + e.1) segment

pub lies_at_place : (c : ℕ) (segments : List Segment) (x : Entry) (at : ℕ) → image_place c segments x.extension x.address x.size ≡ Some at → LiesAt c segments (placed c segments x)
lies_at_place c segments x at e =
    let p = placed_at c segments x.extension x.address x.size at e in
    let is : unwrap_or (image_place c segments x.extension x.address x.size) 0 ≡ at = ap (λ (o : Option ℕ). unwrap_or o 0) e in
    record { segment = p.segment; lies = rw is (placed_lies c segments x.extension x.address x.size at p) }

-- its place is near the start of its segment, as its address has 32 bits
pub near_place : (c : ℕ) (segments : List Segment) (x : Entry) (at : ℕ) → image_place c segments x.extension x.address x.size ≡ Some at → x.address < 4294967296 → IsNear c segments at
near_place c segments x at e small =
    let p = placed_at c segments x.extension x.address x.size at e in
    let l = placed_lies c segments x.extension x.address x.size at p in
    let here : Lie c segments at at p.segment = record { opened = l.opened; begins = l.begins; ends = omega (arith, l.ends) } in
    record { segment = p.segment; lies = lies_if c segments at at p.segment here; near = omega (arith, p.is, small) }

pub lie-within : (c : ℕ) (segments : List Segment) (es : List (Option Entry)) → list_all (is_within c segments) es ≡ true → All (LiesAt c segments) (written_entries c segments es)
lie-within c segments [] h = All-nil (LiesAt c segments)
lie-within c segments (Some x ∷ es) h =
    let both = and_parts (is_within c segments (Some x)) (list_all (is_within c segments) es) h in
    let place = has_place c segments x.extension x.address x.size both.0 in
    All-cons (LiesAt c segments) (placed c segments x) (written_entries c segments es) (lies_at_place c segments x place.at place.is) (lie-within c segments es both.1)
lie-within c segments (None ∷ es) h = absurd (cc)

pub inside-within : (c : ℕ) (segments : List Segment) (es : List OdtEntry) → All (LiesAt c segments) es → All (IsInside (image_len segments)) es
inside-within c segments es each = λ k d h. ends_inside c segments _ _ (each k d h).segment (each k d h).lies

pub readable-within : (c : ℕ) (segments : List Segment) (es : List OdtEntry) → All (LiesAt c segments) es → All (IsReadable c segments) es
readable-within c segments es each = λ k d h. record { segment = (each k d h).segment; lies = lies_if c segments _ _ (each k d h).segment (each k d h).lies }

-- there is one where there is one that is written
pub some-written_entries : (c : ℕ) (segments : List Segment) (es : List (Option Entry)) → 0 < length es → All IsSome es → 0 < length (written_entries c segments es)
some-written_entries c segments [] h each = absurd (omega (arith, h))
some-written_entries c segments (Some x ∷ es) h each = omega arith
some-written_entries c segments (None ∷ es) h each = let some : false ≡ true = All-head IsSome None es each in absurd (cc)

-- the bytes of the entries are those of the written ones
pub sum_by-written_entries : (c : ℕ) (segments : List Segment) (es : List (Option Entry)) → sum_by (λ (e : OdtEntry). e.1) (written_entries c segments es) ≡ sum_by entry_len es
sum_by-written_entries c segments [] = refl
sum_by-written_entries c segments (Some x ∷ es) =
    sum_by-cons (λ (e : OdtEntry). e.1) (placed c segments x) (written_entries c segments es)
    ∙ ap (λ n. x.size + n) (sum_by-written_entries c segments es)
    ∙ sym (sum_by-cons entry_len (Some x) es)
sum_by-written_entries c segments (None ∷ es) = sum_by-written_entries c segments es ∙ sym (sum_by-cons entry_len None es ∙ zero-add (sum_by entry_len es))
