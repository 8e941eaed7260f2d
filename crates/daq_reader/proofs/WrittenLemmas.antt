-- What a copy plan fills is read as the sample of its image.
use Rattle.std.proofs.Common.{Bool, true, false, if◌then◌else◌, ◌==◌, ◌&&◌, ◌≡◌, ℕ, ◌+◌, ◌*◌, ◌/◌, ◌%◌, ◌^◌, ◌<◌, ◌≤◌, List, [], ◌∷◌, ◌++◌, length, map, refl, sym, ap, ◌∙◌, arith, Some, None, length-take, length-drop}
use Rattle.std.specs.Prelude.{All, slice_range}
use Rattle.std.specs.List.{range_with_len}
use Rattle.std.proofs.Math.ListN.{get_or-map}
use Rattle.std.proofs.lemmas.List.{ext_get_or, length-map}
use Rattle.std.proofs.lemmas.List.Elements.{All-head, All-tail}
use Rattle.xcp_base.specs.declared.stamp_size.StampSize.{StampSize}
use Rattle.xcp_base.specs.declared.stamp_size.StampSize.TheVariants.{One, Two, Four}
use Rattle.xcp_base.specs.Forms.{stamp_bytes, stamp_field}
use Rattle.segments.specs.Image.{image_len}
use Rattle.copy_plan.specs.Config.{IsInside, IsPlan, ListPlan, OdtEntry, odt}
use Rattle.copy_plan.specs.Packet.{elements, packet, packets, timestamp}
use Rattle.copy_plan.specs.Pids.{field}
use Rattle.daq_reader.specs.Recorded.{FitsStamp, Recorded, elements_part, packet_of, packets_of, sizes_of, stamp_part}
use Rattle.daq_reader.specs.Laws.{WrittenIsRead, sample_of}
use Rattle.daq_reader.proofs.CutLemmas.{joined, sizes}

-- the slices of an image
abbrev slices : List ℕ → List OdtEntry → List (List ℕ)
slices image es = map (λ (e : OdtEntry). slice_range image e.0 (e.0 + e.1)) es

abbrev lengths : List (List ℕ) → List ℕ
lengths bs = map length bs

joined-slices : (image : List ℕ) (es : List OdtEntry) → joined (slices image es) ≡ elements image es
joined-slices image [] = refl
joined-slices image (e ∷ es) = ap (λ xs. slice_range image e.0 (e.0 + e.1) ++ xs) (joined-slices image es)

length-range : (xs : List ℕ) (a n : ℕ) → a + n ≤ length xs → length (slice_range xs a (a + n)) ≡ n
length-range xs a n h = simp (length-take, length-drop) (omega arith)

lengths-slices : (image : List ℕ) (es : List OdtEntry) → All (IsInside (length image)) es → lengths (slices image es) ≡ sizes es
lengths-slices image [] each = refl
lengths-slices image (e ∷ es) each =
    let here : e.0 + e.1 ≤ length image = All-head (IsInside (length image)) e es each in
    let rest : lengths (slices image es) ≡ sizes es = lengths-slices image es (All-tail (IsInside (length image)) e es each) in
    ap (λ n. n ∷ lengths (slices image es)) (length-range image e.0 e.1 here) ∙ ap (λ ns. e.1 ∷ ns) rest

-- each entry has its bytes
sizes_are : (plan : ListPlan) (image : List ℕ) → IsPlan plan → length image ≡ image_len plan.segments → map lengths (map (slices image) plan.odts) ≡ sizes_of plan
sizes_are plan image is h =
    let count : length (map lengths (map (slices image) plan.odts)) ≡ length plan.odts = length-map (map (slices image) plan.odts) lengths ∙ length-map plan.odts (slices image) in
    ext_get_or [] (map lengths (map (slices image) plan.odts)) (sizes_of plan) (count ∙ sym (length-map plan.odts sizes)) (λ k l.
    let here : k < length plan.odts = omega (arith, l, count) in
    let inside : All (IsInside (length image)) (odt plan k) = rw h (is.inside k here) in
    get_or-map lengths (map (slices image) plan.odts) k []
    ∙ ap lengths (get_or-map (slices image) plan.odts k [])
    ∙ lengths-slices image (odt plan k) inside
    ∙ sym (get_or-map sizes plan.odts k []))

fits_if : (size : StampSize) (stamped : Bool) (n : ℕ) → n < 2 ^ (8 * stamp_bytes size) → FitsStamp size stamped (if stamped then Some n else None)
fits_if size true n h = h
fits_if size false n h = tt

low : (size : StampSize) (n : ℕ) → n % 2 ^ (8 * stamp_bytes size) < 2 ^ (8 * stamp_bytes size)
low One n = omega arith
low Two n = omega arith
low Four n = omega arith

-- a timestamp has no more than these low bytes
same_field : (size : StampSize) (n : ℕ) → stamp_field size (n % 2 ^ (8 * stamp_bytes size)) ≡ stamp_field size n
same_field One n = let a : n % 256 % 256 ≡ n % 256 = omega arith in ap (λ x. x ∷ []) a
same_field Two n =
    let a : n % 65536 % 256 ≡ n % 256 = omega arith in
    let b : n % 65536 / 256 % 256 ≡ n / 256 % 256 = omega arith in
    ap (λ x. x ∷ n % 65536 / 256 % 256 ∷ []) a ∙ ap (λ x. n % 256 ∷ x ∷ []) b
same_field Four n =
    let a : n % 4294967296 % 256 ≡ n % 256 = omega arith in
    let b : n % 4294967296 / 256 % 256 ≡ n / 256 % 256 = omega arith in
    let c : n % 4294967296 / 65536 % 256 ≡ n / 65536 % 256 = omega arith in
    let d : n % 4294967296 / 16777216 % 256 ≡ n / 16777216 % 256 = omega arith in
    ap (λ x. x ∷ n % 4294967296 / 256 % 256 ∷ n % 4294967296 / 65536 % 256 ∷ n % 4294967296 / 16777216 % 256 ∷ []) a
    ∙ ap (λ x. n % 256 ∷ x ∷ n % 4294967296 / 65536 % 256 ∷ n % 4294967296 / 16777216 % 256 ∷ []) b
    ∙ ap (λ x. n % 256 ∷ n / 256 % 256 ∷ x ∷ n % 4294967296 / 16777216 % 256 ∷ []) c
    ∙ ap (λ x. n % 256 ∷ n / 256 % 256 ∷ n / 65536 % 256 ∷ x ∷ []) d

stamp_first : (size : StampSize) (n : ℕ) (v : Bool) → (if v then stamp_field size (n % 2 ^ (8 * stamp_bytes size)) else []) ≡ (if v && true then stamp_field size n else [])
stamp_first size n true = same_field size n
stamp_first size n false = refl

no_stamp : (size : StampSize) (n : ℕ) (v : Bool) → [] ≡ (if v && false then stamp_field size n else [])
no_stamp size n true = refl
no_stamp size n false = refl

stamp_is : (size : StampSize) (stamped : Bool) (k n : ℕ) → stamp_part size k (if stamped then Some (n % 2 ^ (8 * stamp_bytes size)) else None) ≡ (if k == 0 && stamped then stamp_field size n else [])
stamp_is size true k n = stamp_first size n (k == 0)
stamp_is size false k n = no_stamp size n (k == 0)

-- packet by packet they are the same
packet_is : (plan : ListPlan) (image : List ℕ) (stamp : ℕ) (overload : Bool) (k : ℕ) → packet plan image stamp overload k ≡ packet_of plan (sample_of plan image stamp overload) k
unfolding packet packet_of
packet_is plan image stamp overload k =
    let r : Recorded = sample_of plan image stamp overload in
    let ticks : timestamp plan k stamp ≡ stamp_part plan.form.stamp k r.stamp = sym (stamp_is plan.form.stamp plan.stamped k stamp) in
    let bytes : elements image (odt plan k) ≡ elements_part r k = sym (joined-slices image (odt plan k)) ∙ ap joined (sym (get_or-map (slices image) plan.odts k [])) in
    ap (λ xs. field plan k overload ++ (xs ++ elements image (odt plan k))) ticks ∙ ap (λ xs. field plan k overload ++ (stamp_part plan.form.stamp k r.stamp ++ xs)) bytes

same_map : (f g : ℕ → List ℕ) (ks : List ℕ) → ((k : ℕ) → f k ≡ g k) → map f ks ≡ map g ks
same_map f g [] h = refl
same_map f g (k ∷ ks) h = ap (λ x. x ∷ map f ks) (h k) ∙ ap (λ xs. g k ∷ xs) (same_map f g ks h)

pub written_is_read : WrittenIsRead
unfolding packets packets_of
written_is_read plan image stamp overload is h = record {
  is = record {
    stamp = fits_if plan.form.stamp plan.stamped (stamp % 2 ^ (8 * stamp_bytes plan.form.stamp)) (low plan.form.stamp stamp);
    elements = sizes_are plan image is h;
  };
  packets = same_map (packet plan image stamp overload) (packet_of plan (sample_of plan image stamp overload)) (range_with_len 0 (length plan.odts)) (packet_is plan image stamp overload);
}
