-- What MDF finds at the places of values.
use Rattle.std.proofs.Common.{◌≡◌, ℕ, ◌+◌, ◌-◌, ◌*◌, ◌/◌, ◌%◌, ◌^◌, ◌<◌, ◌≤◌, true}
use Rattle.std.proofs.Common.{false, List}
use Rattle.std.proofs.Common.{◌++◌, ◌∙◌, All, Option, Some, None, length, take, drop, refl, sym, ap}
use Rattle.std.proofs.Common.{subst}
use Rattle.std.proofs.Common.{arith, length-append, length-drop, mul_assoc, pow-add}
use Rattle.std.proofs.Common.{take-append-drop, lit<}
use Rattle.std.proofs.Math.Nat.{mul_comm, mod-eq_of_lt, one-le-pow}
use Rattle.std.proofs.Math.Seq.{drop-drop, take-take}
use Rattle.std.proofs.lemmas.Bool.{false≢true}
use Rattle.std.proofs.lemmas.List.{drop-take, length-take-le}
use Rattle.std.proofs.lemmas.List.Elements.{All-drop, All-take}
use Rattle.std.proofs.lemmas.Nat.{and_mask, and_shr, div-mul-add}
use Rattle.std.specs.Prelude.{bit_and, slice_range}
use Rattle.measured_values.specs.Encodings.{size_of}
use Rattle.measured_values.specs.Raws.{masked, number_of_bytes, raw_in}
use Rattle.measured_values.specs.declared.byte_order.ByteOrder.{ByteOrder}
use Rattle.measured_values.specs.declared.byte_order.ByteOrder.TheVariants.{MsbFirst, MsbLast}
use Rattle.measured_values.specs.declared.data_type.DataType.{DataType}
use Rattle.measured_values.specs.declared.data_type.DataType.TheVariants as type
use Rattle.measured_values.specs.declared.raw.Raw.TheVariants as raw
use Rattle.mdf_blocks.specs.ValuePlaces.{FindsMasked, IsPlaceOf, IsRun, bits_at, bytes_of_bits}
use Rattle.mdf_blocks.specs.ValuePlaces.{first_byte, format_of, is_float, order_of, raw_at_place}
use Rattle.mdf_blocks.specs.ValuePlaces.{raw_of_bits}
use Rattle.mdf_blocks.specs.declared.bit_run.BitRun.{BitRun}
use Rattle.mdf_blocks.specs.declared.value_format.ValueFormat.{ValueFormat}
use Rattle.mdf_blocks.specs.declared.value_format.ValueFormat.TheVariants.{Unsigned}
use Rattle.mdf_blocks.specs.declared.value_place.ValuePlace.{ValuePlace}
use Rattle.mdf_blocks.proofs.BitsLemmas.{middle_bits, pow256}
use Rattle.mdf_blocks.proofs.BytesLemmas.{be_on, be_on-append, be_on-lt, be_on-split, le, le-append}
use Rattle.mdf_blocks.proofs.BytesLemmas.{le-lt, num, number_is}

abbrev pub Byte : ℕ → Type 0
Byte b = b < 256

-- a part of the first bytes behind a place
part_behind : (xs : List ℕ) (at s q n : ℕ) → q + n ≤ s
    → take n (drop (at + q) xs) ≡ take n (drop q (take s (drop at xs)))
part_behind xs at s q n inside =
    let parts : s ≡ q + (s - q) = omega (arith, inside) in
    let short : n ≤ s - q = omega (arith, inside) in
    sym (
    ap (λ k. take n (drop q (take k (drop at xs)))) parts
    ∙ ap (take n) (drop-take q (s - q) (drop at xs))
    ∙ take-take n (s - q) (drop q (drop at xs)) short
    ∙ ap (take n) (drop-drop q at xs))

-- of bytes, those before the middle, those in it, and those behind
le_middle : (v : List ℕ) (q n : ℕ) → q + n ≤ length v
    → le v ≡ le (take q v) + 256 ^ q * (le (take n (drop q v)) + 256 ^ n * le (drop n (drop q v)))
le_middle v q n inside =
    let front : length (take q v) ≡ q = length-take-le q v (omega (arith, inside)) in
    let mid : length (take n (drop q v)) ≡ n =
    length-take-le n (drop q v) (omega (arith, inside, length-drop q v)) in
    ap le (sym (take-append-drop q v)) ∙ le-append (take q v) (drop q v)
    ∙ ap (λ k. le (take q v) + 256 ^ k * le (drop q v)) front
    ∙ ap (λ k. le (take q v) + 256 ^ q * k) (
    ap le (sym (take-append-drop n (drop q v))) ∙ le-append (take n (drop q v)) (drop n (drop q v))
    ∙ ap (λ k. le (take n (drop q v)) + 256 ^ k * le (drop n (drop q v))) mid)

be_two : (xs ys : List ℕ) → be_on 0 (xs ++ ys) ≡ be_on 0 ys + 256 ^ length ys * be_on 0 xs
be_two xs ys =
    be_on-append 0 xs ys ∙ be_on-split (be_on 0 xs) ys
    ∙ omega (arith, mul_comm (be_on 0 xs) (256 ^ length ys))

be_middle : (v : List ℕ) (f n q : ℕ) → f + n + q ≡ length v
    → be_on 0 v ≡ be_on 0 (drop n (drop f v))
    + 256 ^ q * (be_on 0 (take n (drop f v)) + 256 ^ n * be_on 0 (take f v))
be_middle v f n q whole =
    let a : List ℕ = take f v in
    let m : List ℕ = take n (drop f v) in
    let b : List ℕ = drop n (drop f v) in
    let long : length (drop f v) ≡ n + q = omega (arith, whole, length-drop f v) in
    let mid : length m ≡ n = length-take-le n (drop f v) (omega (arith, long)) in
    let back : length b ≡ q = omega (arith, long, length-drop n (drop f v)) in
    let inner : m ++ b ≡ drop f v = take-append-drop n (drop f v) in
    let power : 256 ^ length (m ++ b) ≡ 256 ^ q * 256 ^ n =
    ap (λ k. 256 ^ k) (length-append m b ∙ ap (λ k. k + length b) mid ∙ ap (λ k. n + k) back
    ∙ omega arith) ∙ pow-add 256 q n in
    let both : be_on 0 (m ++ b) ≡ be_on 0 b + 256 ^ q * be_on 0 m =
    be_two m b ∙ ap (λ k. be_on 0 b + 256 ^ k * be_on 0 m) back in
    let product : 256 ^ length (m ++ b) * be_on 0 a ≡ 256 ^ q * (256 ^ n * be_on 0 a) =
    ap (λ p. p * be_on 0 a) power ∙ mul_assoc (256 ^ q) (256 ^ n) (be_on 0 a) in
    ap (be_on 0) (sym (ap (λ zs. a ++ zs) inner ∙ take-append-drop f v))
    ∙ be_two a (m ++ b)
    ∙ omega (arith, both, product)

-- bits within the number of the bytes at a place are those that MDF finds
found : (order : ByteOrder) (xs : List ℕ) (at s low count : ℕ) → 0 < count → low + count ≤ 8 * s
    → at + s ≤ length xs → All Byte xs
    → bits_at order (at + first_byte order s low count) (low % 8) count xs
    ≡ num order (take s (drop at xs)) / 2 ^ low % 2 ^ count
found MsbLast xs at s low count some within inside bytes =
    let q : ℕ = low / 8 in
    let bit : ℕ = low % 8 in
    let n : ℕ = bytes_of_bits bit count in
    let v : List ℕ = take s (drop at xs) in
    let low_is : low ≡ 8 * q + bit = omega arith in
    let needed : bit + count ≤ 8 * n = omega arith in
    let fitting : q + n ≤ s = omega (arith, within) in
    let least : 0 < n = omega (arith, some) in
    let long : length v ≡ s = length-take-le s (drop at xs)
    (omega (arith, inside, length-drop at xs)) in
    let small : le (take q v) < 256 ^ q =
    subst (λ k. le (take q v) < 256 ^ k) (length-take-le q v (omega (arith, long, fitting)))
    (le-lt (take q v) (All-take Byte q v (All-take Byte s (drop at xs)
    (All-drop Byte at xs bytes)))) in
    let number : number_of_bytes MsbLast n (drop (at + q) xs) ≡ le (take n (drop q v)) =
    number_is MsbLast (drop (at + q) xs) n least
    (omega (arith, fitting, inside, length-drop (at + q) xs))
    ∙ ap le (part_behind xs at s q n fitting) in
    ap (λ m. m / 2 ^ bit % 2 ^ count) number
    ∙ sym (middle_bits (le (take q v)) (le (take n (drop q v))) (le (drop n (drop q v))) q n low bit
    count small low_is needed)
    ∙ ap (λ m. m / 2 ^ low % 2 ^ count) (sym (le_middle v q n (omega (arith, long, fitting))))
found MsbFirst xs at s low count some within inside bytes =
    let q : ℕ = low / 8 in
    let bit : ℕ = low % 8 in
    let n : ℕ = bytes_of_bits bit count in
    let f : ℕ = first_byte MsbFirst s low count in
    let v : List ℕ = take s (drop at xs) in
    let low_is : low ≡ 8 * q + bit = omega arith in
    let needed : bit + count ≤ 8 * n = omega arith in
    let parts : f + n + q ≡ s = omega (arith, within, some) in
    let least : 0 < n = omega (arith, some) in
    let long : length v ≡ s = length-take-le s (drop at xs)
    (omega (arith, inside, length-drop at xs)) in
    let behind : length (drop n (drop f v)) ≡ q =
    omega (arith, parts, long, length-drop n (drop f v), length-drop f v) in
    let small : be_on 0 (drop n (drop f v)) < 256 ^ q =
    subst (λ k. be_on 0 (drop n (drop f v)) < 256 ^ k) behind
    (be_on-lt (drop n (drop f v)) (All-drop Byte n (drop f v) (All-drop Byte f v
    (All-take Byte s (drop at xs) (All-drop Byte at xs bytes))))) in
    let number : number_of_bytes MsbFirst n (drop (at + f) xs) ≡ be_on 0 (take n (drop f v)) =
    number_is MsbFirst (drop (at + f) xs) n least
    (omega (arith, parts, inside, length-drop (at + f) xs))
    ∙ ap (be_on 0) (part_behind xs at s f n (omega (arith, parts))) in
    ap (λ m. m / 2 ^ bit % 2 ^ count) number
    ∙ sym (middle_bits (be_on 0 (drop n (drop f v))) (be_on 0 (take n (drop f v)))
    (be_on 0 (take f v)) q n low bit count small low_is needed)
    ∙ ap (λ m. m / 2 ^ low % 2 ^ count)
    (sym (be_middle v f n q (omega (arith, parts, long))))

-- the number of bytes is below the power of their count
num-lt : (order : ByteOrder) (xs : List ℕ) → All Byte xs → num order xs < 256 ^ length xs
num-lt MsbLast xs bytes = le-lt xs bytes
num-lt MsbFirst xs bytes = be_on-lt xs bytes

-- the same at a place, by its fields
found_at : (format : ValueFormat) (size at : ℕ) (run : BitRun) (p : ValuePlace) (xs : List ℕ)
    → IsPlaceOf format size run at p → 0 < run.count → run.low + run.count ≤ 8 * size
    → at + size ≤ length xs → All Byte xs
    → raw_at_place p xs
    ≡ raw_of_bits format run.count
    (num (order_of format) (take size (drop at xs)) / 2 ^ run.low % 2 ^ run.count)
found_at format size at run p xs is some within inside bytes =
    ap (λ (f : ValueFormat). raw_of_bits f p.bit_count
    (bits_at (order_of f) p.byte_offset p.bit_offset p.bit_count xs)) is.format_is
    ∙ ap (λ (b : ℕ). raw_of_bits format p.bit_count
    (bits_at (order_of format) b p.bit_offset p.bit_count xs)) is.byte_is
    ∙ ap (λ (i : ℕ). raw_of_bits format p.bit_count
    (bits_at (order_of format) (at + first_byte (order_of format) size run.low run.count) i
    p.bit_count xs)) is.bit_is
    ∙ ap (λ (k : ℕ). raw_of_bits format k
    (bits_at (order_of format) (at + first_byte (order_of format) size run.low run.count)
    (run.low % 8) k xs)) is.count_is
    ∙ ap (raw_of_bits format run.count)
    (found (order_of format) xs at size run.low run.count some within inside bytes)

-- the number of the bytes of a value
value_number : (order : ByteOrder) (xs : List ℕ) (at s : ℕ) → 0 < s → at + s ≤ length xs
    → number_of_bytes order s (slice_range xs at (at + s)) ≡ num order (take s (drop at xs))
value_number order xs at s some inside =
    let width : at + s - at ≡ s = omega arith in
    let same : slice_range xs at (at + s) ≡ take s (drop at xs) =
    ap (λ k. take k (drop at xs)) width in
    let long : length (take s (drop at xs)) ≡ s =
    length-take-le s (drop at xs) (omega (arith, inside, length-drop at xs)) in
    ap (number_of_bytes order s) same
    ∙ number_is order (take s (drop at xs)) s some (omega (arith, long))
    ∙ ap (num order) (take-take s s (drop at xs) (omega arith))

order_of-format : (t : DataType) (order : ByteOrder) → order_of (format_of t order) ≡ order
order_of-format type.UByte order = refl
order_of-format type.SByte order = refl
order_of-format type.UWord order = refl
order_of-format type.SWord order = refl
order_of-format type.ULong order = refl
order_of-format type.SLong order = refl
order_of-format type.AUint64 order = refl
order_of-format type.AInt64 order = refl
order_of-format type.Float16 order = refl
order_of-format type.Float32 order = refl
order_of-format type.Float64 order = refl

-- all bits of a data type are its raw value
whole_raw : (t : DataType) (order : ByteOrder) (n : ℕ)
    → raw_of_bits (format_of t order) (8 * size_of t) n ≡ raw_in t None n
whole_raw type.UByte order n = refl
whole_raw type.SByte order n = refl
whole_raw type.UWord order n = refl
whole_raw type.SWord order n = refl
whole_raw type.ULong order n = refl
whole_raw type.SLong order n = refl
whole_raw type.AUint64 order n = refl
whole_raw type.AInt64 order n = refl
whole_raw type.Float16 order n = refl
whole_raw type.Float32 order n = refl
whole_raw type.Float64 order n = refl

-- a mask has no effect on a float
pub float_raw : (t : DataType) (mask : Option ℕ) (n : ℕ) → is_float t ≡ true
    → raw_in t mask n ≡ raw_in t None n
float_raw type.UByte mask n e = absurd (false≢true e)
float_raw type.SByte mask n e = absurd (false≢true e)
float_raw type.UWord mask n e = absurd (false≢true e)
float_raw type.SWord mask n e = absurd (false≢true e)
float_raw type.ULong mask n e = absurd (false≢true e)
float_raw type.SLong mask n e = absurd (false≢true e)
float_raw type.AUint64 mask n e = absurd (false≢true e)
float_raw type.AInt64 mask n e = absurd (false≢true e)
float_raw type.Float16 mask n e = refl
float_raw type.Float32 mask n e = refl
float_raw type.Float64 mask n e = refl

-- and takes bits of any other value
masked_raw : (t : DataType) (mask n : ℕ) → is_float t ≡ false
    → raw_in t (Some mask) n ≡ raw.Unsigned (masked mask n)
masked_raw type.UByte mask n e = refl
masked_raw type.SByte mask n e = refl
masked_raw type.UWord mask n e = refl
masked_raw type.SWord mask n e = refl
masked_raw type.ULong mask n e = refl
masked_raw type.SLong mask n e = refl
masked_raw type.AUint64 mask n e = refl
masked_raw type.AInt64 mask n e = refl
masked_raw type.Float16 mask n e = absurd (false≢true (sym e))
masked_raw type.Float32 mask n e = absurd (false≢true (sym e))
masked_raw type.Float64 mask n e = absurd (false≢true (sym e))

size_some : (t : DataType) → 0 < size_of t
size_some type.UByte = lit< tt
size_some type.SByte = lit< tt
size_some type.UWord = lit< tt
size_some type.SWord = lit< tt
size_some type.ULong = lit< tt
size_some type.SLong = lit< tt
size_some type.AUint64 = lit< tt
size_some type.AInt64 = lit< tt
size_some type.Float16 = lit< tt
size_some type.Float32 = lit< tt
size_some type.Float64 = lit< tt

-- all bits
pub whole_found : (t : DataType) (order : ByteOrder) (mask : Option ℕ) (at : ℕ) (p : ValuePlace)
    → IsPlaceOf (format_of t order) (size_of t) (record { low = 0; count = 8 * size_of t }) at p
    → ((n : ℕ) → raw_in t mask n ≡ raw_in t None n) → FindsMasked t order mask at p
whole_found t order mask at p is same bytes each inside =
    let size : ℕ = size_of t in
    let n : ℕ = num order (take size (drop at bytes)) in
    let long : length (take size (drop at bytes)) ≡ size =
    length-take-le size (drop at bytes) (omega (arith, inside, length-drop at bytes)) in
    let small : n < 2 ^ (8 * size) =
    subst (λ k. n < k) (ap (λ k. 256 ^ k) long ∙ pow256 size)
    (num-lt order (take size (drop at bytes)) (All-take Byte size (drop at bytes)
    (All-drop Byte at bytes each))) in
    let kept : n / 2 ^ 0 % 2 ^ (8 * size) ≡ n =
    ap (λ k. k % 2 ^ (8 * size)) (omega arith) ∙ mod-eq_of_lt small in
    found_at (format_of t order) size at (record { low = 0; count = 8 * size }) p bytes is
    (omega (arith, size_some t)) (omega arith) inside each
    ∙ ap (λ (o : ByteOrder). raw_of_bits (format_of t order) (8 * size)
    (num o (take size (drop at bytes)) / 2 ^ 0 % 2 ^ (8 * size))) (order_of-format t order)
    ∙ ap (raw_of_bits (format_of t order) (8 * size)) kept
    ∙ whole_raw t order n ∙ sym (same n)
    ∙ ap (raw_in t mask) (sym (value_number order bytes at size (size_some t) inside))

-- the bits of a mask
pub run_found : (t : DataType) (order : ByteOrder) (mask at : ℕ) (run : BitRun) (p : ValuePlace)
    → is_float t ≡ false → IsRun mask (size_of t) run
    → IsPlaceOf (Unsigned order) (size_of t) run at p → FindsMasked t order (Some mask) at p
run_found t order mask at run p whole is_run is bytes each inside =
    let size : ℕ = size_of t in
    let n : ℕ = num order (take size (drop at bytes)) in
    let taken : masked mask n ≡ n / 2 ^ run.low % 2 ^ run.count =
    ap (λ k. bit_and n mask / 2 ^ k) (sym is_run.low) ∙ and_shr n mask run.low
    ∙ ap (bit_and (n / 2 ^ run.low)) is_run.ones ∙ and_mask (n / 2 ^ run.low) run.count in
    found_at (Unsigned order) size at run p bytes is is_run.some is_run.within inside each
    ∙ ap raw.Unsigned (sym taken) ∙ sym (masked_raw t mask n whole)
    ∙ ap (raw_in t (Some mask)) (sym (value_number order bytes at size (size_some t) inside))

-- so many ones
pub all_ones : (c : ℕ) → c ≤ 64 → (2 ^ 64 - 1) / 2 ^ (64 - c) ≡ 2 ^ c - 1
all_ones c within =
    let k : ℕ = 64 - c in
    let some_c : 1 ≤ 2 ^ c = one-le-pow c 2 (lit< tt) in
    let some_k : 1 ≤ 2 ^ k = one-le-pow k 2 (lit< tt) in
    let a : ℕ = 2 ^ c - 1 in
    let w : ℕ = 2 ^ k in
    let b : ℕ = 2 ^ k - 1 in
    let sum : 64 ≡ c + k = omega (arith, within) in
    let power : 2 ^ 64 ≡ 2 ^ c * w = ap (λ j. 2 ^ j) sum ∙ pow-add 2 c k in
    let more : 2 ^ c ≡ a + 1 = omega (arith, some_c) in
    let product : 2 ^ 64 ≡ (a + 1) * w = power ∙ ap (λ j. j * w) more in
    let parts : 2 ^ 64 - 1 ≡ a * w + b = omega (arith, product, some_k) in
    ap (λ j. j / w) parts ∙ div-mul-add a w b (omega (arith, some_k))

-- a place of all bits, by a format and a size that are those of the data type
pub whole_place : (t : DataType) (order : ByteOrder) (format : ValueFormat) (size at : ℕ)
    (p : ValuePlace) → format ≡ format_of t order → size ≡ size_of t
    → IsPlaceOf format size (record { low = 0; count = 8 * size }) at p
    → IsPlaceOf (format_of t order) (size_of t) (record { low = 0; count = 8 * size_of t }) at p
whole_place t order format size at p format_is size_is is =
    subst (λ (n : ℕ). IsPlaceOf (format_of t order) n (record { low = 0; count = 8 * n }) at p)
    size_is
    (subst (λ (f : ValueFormat). IsPlaceOf f size (record { low = 0; count = 8 * size }) at p)
    format_is is)
