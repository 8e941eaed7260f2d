-- The parts of a packet, their lengths, and the packet put together.
use Rattle.std.proofs.Common.{Bool, true, false, if◌then◌else◌, ◌==◌, ◌&&◌, ◌≡◌, ℕ, ◌+◌, ◌-◌, ◌<◌, ◌≤◌, List, [], ◌∷◌, ◌++◌, length, take, refl, arith, length-append, length-take, length-drop}
use Rattle.std.specs.Prelude.{All, slice_range, sum_by}
use Rattle.std.proofs.lemmas.List.Sums.{sum_by-cons}
use Rattle.std.proofs.lemmas.List.Elements.{All-head, All-tail}
use Rattle.std.specs.Int.{bytes_low_first}
use Rattle.xcp_base.specs.declared.stamp_size.StampSize.{StampSize}
use Rattle.xcp_base.specs.declared.stamp_size.StampSize.TheVariants.{One, Two, Four}
use Rattle.xcp_base.specs.Forms.{stamp_bytes, stamp_field}
use Rattle.xcp_base.specs.Packets.{packet_len, stamp_len}
use Rattle.xcp_base.specs.Copied.{packet_of}
use Rattle.segments.specs.Image.{image_len}
use Rattle.xcp_base.proofs.FormLemmas.{length-id_field, length-stamp_field}
use Rattle.copy_plan.specs.Config.{elements_len, ListPlan, IsByValue, IsPlan, OdtEntry, IsInside, odt}
use Rattle.copy_plan.specs.Pids.{field}
use Rattle.copy_plan.specs.Packet.{timestamp, elements, packet}

length-range : (xs : List ℕ) (a b : ℕ) → a ≤ b → b ≤ length xs → length (slice_range xs a b) ≡ b - a
length-range xs a b h k = simp (length-take, length-drop) (omega arith)

-- the bytes of entries within the image
pub length-elements : (image : List ℕ) (es : List OdtEntry) → All (IsInside (length image)) es → length (elements image es) ≡ sum_by (λ (e : OdtEntry). e.1) es
length-elements image [] each = refl
length-elements image (e ∷ es) each =
    let here : e.0 + e.1 ≤ length image = All-head (IsInside (length image)) e es each in
    let rest : length (elements image es) ≡ sum_by (λ (e : OdtEntry). e.1) es = length-elements image es (All-tail (IsInside (length image)) e es each) in
    omega (arith, length-append (slice_range image e.0 (e.0 + e.1)) (elements image es), length-range image e.0 (e.0 + e.1) (omega arith) here, rest, sum_by-cons (λ (e : OdtEntry). e.1) e es)

pub length-timestamp : (plan : ListPlan) (k stamp : ℕ) → length (timestamp plan k stamp) ≡ stamp_len plan.form.stamp plan.stamped k
length-timestamp plan k stamp =
    elim (k == 0 && plan.stamped) as (λ v. ◌≡◌ {A = ℕ} (length (if v then stamp_field plan.form.stamp stamp else [])) (if v then stamp_bytes plan.form.stamp else 0)) [ true ↦ length-stamp_field plan.form.stamp stamp | false ↦ refl ]

-- the elements have the length that the plan has for them
pub elements_long : (plan : ListPlan) (image : List ℕ) (k : ℕ) → length image ≡ image_len plan.segments → IsPlan plan → k < length plan.odts → length (elements image (odt plan k)) ≡ elements_len plan k
elements_long plan image k h is here = length-elements image (odt plan k) (rw h (is.inside k here))

-- the packet has the length that the plan has for it
pub packet_has_len : (plan : ListPlan) (image : List ℕ) (stamp k : ℕ) (overload : Bool) → length image ≡ image_len plan.segments → IsPlan plan → k < length plan.odts → length (packet plan image stamp overload k) ≡ packet_len plan.form plan.stamped k (elements_len plan k)
unfolding packet
packet_has_len plan image stamp k overload h is here =
    omega (arith, length-append (field plan k overload) (timestamp plan k stamp ++ elements image (odt plan k)), length-append (timestamp plan k stamp) (elements image (odt plan k)), length-id_field plan.form.id plan.first_pid plan.list k overload, length-timestamp plan k stamp, elements_long plan image k h is here)

pub length-packet : (plan : ListPlan) (image : List ℕ) (stamp k : ℕ) (overload : Bool) → length image ≡ image_len plan.segments → IsPlan plan → IsByValue plan → k < length plan.odts → length (packet plan image stamp overload k) ≤ 64
length-packet plan image stamp k overload h is fits here = omega (arith, fits.short k here, packet_has_len plan image stamp k overload h is here)

stamp_front : (size : StampSize) (stamp : ℕ) → take (stamp_bytes size) (bytes_low_first 0 4 stamp) ≡ stamp_field size stamp
stamp_front One stamp = refl
stamp_front Two stamp = refl
stamp_front Four stamp = refl

-- the timestamp, as the bytes of its number from the least significant on
pub timestamp-front : (plan : ListPlan) (k stamp : ℕ) → take (stamp_len plan.form.stamp plan.stamped k) (bytes_low_first 0 4 stamp) ≡ timestamp plan k stamp
timestamp-front plan k stamp =
    elim (k == 0 && plan.stamped) as (λ v. ◌≡◌ {A = List ℕ} (take (if v then stamp_bytes plan.form.stamp else 0) (bytes_low_first 0 4 stamp)) (if v then stamp_field plan.form.stamp stamp else [])) [ true ↦ stamp_front plan.form.stamp stamp | false ↦ refl ]

-- a field, a timestamp and copies are the packet where each of them is its part
pub packet_is : (plan : ListPlan) (image : List ℕ) (stamp k : ℕ) (overload : Bool) (first ticks copies : List ℕ) → first ≡ field plan k overload → ticks ≡ timestamp plan k stamp → copies ≡ elements image (odt plan k) → packet_of first ticks copies ≡ packet plan image stamp overload k
unfolding packet
packet_is plan image stamp k overload first ticks copies a b c = cc
