-- Raw values that are integers, as whole numbers of 64 bits and back.
use Rattle.std.proofs.Common.{◌≡◌, ℕ, zero, suc, ◌-◌, ◌*◌, ◌/◌, ◌%◌, ◌^◌, ◌<◌, ◌≤◌, Bool}
use Rattle.std.proofs.Common.{true, false, cond, ◌∙◌, Option, Some, None, refl}
use Rattle.std.proofs.Common.{sym, ap}
use Rattle.std.proofs.Common.{subst, arith}
use Rattle.std.proofs.Math.Nat.{div-le_self, mod-lt, one-le-pow, pow-le-pow_right}
use Rattle.std.proofs.lemmas.Bool.{ltb-false, ltb-true}
use Rattle.std.proofs.lemmas.Nat.{and_le_l}
use Rattle.std.specs.Int.{cast_signed, cast_unsigned, leading_zeros, trailing_zeros, w64}
use Rattle.std.specs.Prelude.{◌==◌, ◌||◌, FitsSigned, bit_and, if◌then◌else◌, nat_lt, ℤ, pos}
use Rattle.std.specs.Prelude.{negsuc, ◌-ℤ◌}
use mir.Facts.{Fits-of_z, to_z-of_z}
use Rattle.measured_values.specs.Raws.{highest_bit, keeps_sign, mask_in, masked, moved}
use Rattle.measured_values.specs.Raws.{operated, raw_by, sign_extended, signed_in}
use Rattle.measured_values.specs.Raws.{twos_complement, unsigned_in}
use Rattle.measured_values.specs.Encodings.{size_of}
use Rattle.measured_values.specs.declared.bit_operation.BitOperation.{BitOperation}
use Rattle.measured_values.specs.declared.byte_order.ByteOrder.TheVariants.{MsbLast}
use Rattle.measured_values.specs.declared.data_type.DataType.{DataType}
use Rattle.measured_values.specs.declared.data_type.DataType.TheVariants as type
use Rattle.measured_values.specs.declared.raw.Raw.{Raw}
use Rattle.measured_values.specs.declared.raw.Raw.TheVariants as raw
use Rattle.mdf_blocks.specs.ValuePlaces.{is_float, order_of, raw_of_bits}
use Rattle.mdf_blocks.specs.declared.value_format.ValueFormat.{ValueFormat}
use Rattle.mdf_blocks.specs.declared.value_format.ValueFormat.TheVariants.{Signed, Unsigned}
use Rattle.mdf_groups.specs.Places.{signed_by}
use Rattle.mdf_groups.specs.Records.{whole_number}

-- a raw value is a signed integer of 64 bits, or an unsigned one
abbrev pub IsInteger : Bool → Raw → Type 0
IsInteger true r = (z : ℤ) × (r ≡ raw.Signed z) × FitsSigned w64 z
IsInteger false r = (n : ℕ) × (r ≡ raw.Unsigned n) × (n < 2 ^ 64)

masked_small : (mask n : ℕ) → n < 2 ^ 64 → masked mask n < 2 ^ 64
masked_small mask n small =
    omega (
      arith,
      small,
      and_le_l n mask,
      div-le_self (bit_and n mask) (2 ^ trailing_zeros w64 mask),
    )

difference : (a m : ℕ) → a < m → pos a -ℤ pos m ≡ negsuc (m - suc a)
difference a zero low = absurd (omega (arith, low))
difference a (suc m) low = by (nat_lt a (suc m)) refl
  where
    by : (b : Bool) → nat_lt a (suc m) ≡ b
        → cond b (negsuc (suc m - suc a)) (pos (a - suc m)) ≡ negsuc (suc m - suc a)
    by true e = refl
    by false e = absurd (omega (arith, low, ltb-false a (suc m) e))

below_fits : (a m : ℕ) → a < m → m - a ≤ 2 ^ 63 → FitsSigned w64 (pos a -ℤ pos m)
below_fits a m low near =
    subst (FitsSigned w64) (sym (difference a m low))
    (record { sfits = omega (arith, low, near) })

above_fits : (a : ℕ) → a < 2 ^ 63 → FitsSigned w64 (pos a)
above_fits a small = record { sfits = small }

twos_fits : (h n : ℕ) → h ≤ 2 ^ 63 → n < 2 * h → FitsSigned w64 (twos_complement h n)
twos_fits h n low small =
    elim (nat_lt n h) as (λ b. nat_lt n h ≡ b
    → FitsSigned w64 (if b then pos n else pos n -ℤ pos (2 * h))) [
      | true ↦ λ e. above_fits n (omega (arith, low, ltb-true n h e))
      | false ↦ λ e. below_fits n (2 * h) small (omega (arith, low, ltb-false n h e))
    ] refl

extended_fits : (sign n : ℕ) → 0 < sign → sign ≤ 2 ^ 63 → FitsSigned w64 (sign_extended sign n)
extended_fits sign n some low =
    let rest : n % sign < sign = mod-lt n some in
    elim (n / sign % 2 == 0) as (λ b.
    FitsSigned w64 (if b then pos (n % sign) else pos (n % sign) -ℤ pos sign)) [
      | true ↦ above_fits (n % sign) (omega (arith, rest, low))
      | false ↦ below_fits (n % sign) sign rest (omega (arith, rest, low))
    ]

moved_small : (o : BitOperation) (n : ℕ) → moved o n < 2 ^ 64
moved_small o n =
    omega (arith, div-le_self (n * 2 ^ o.left % 2 ^ 64) (2 ^ o.right))

highest_some : (n : ℕ) → 0 < highest_bit n
highest_some n = omega (arith, one-le-pow (63 - leading_zeros w64 n) 2 (omega arith))

highest_low : (n : ℕ) → highest_bit n ≤ 2 ^ 63
highest_low n =
    pow-le-pow_right {n = 2} (omega arith) {i = 63 - leading_zeros w64 n} {j = 63} (omega arith)

operated_integer : (o : BitOperation) (b : Bool) (mask n : ℕ) → IsInteger b (operated o b mask n)
operated_integer o true mask n = (
  sign_extended (highest_bit (moved o mask)) (moved o (bit_and n mask)),
  refl,
  extended_fits (highest_bit (moved o mask)) (moved o (bit_and n mask))
      (highest_some (moved o mask)) (highest_low (moved o mask)),
)
operated_integer o false mask n = (moved o (bit_and n mask), refl, moved_small o (bit_and n mask))

unsigned_integer : (mask : Option ℕ) (n : ℕ) → n < 2 ^ 64 → IsInteger false (unsigned_in mask n)
unsigned_integer None n small = (n, refl, small)
unsigned_integer (Some mask) n small = (masked mask n, refl, masked_small mask n small)

signed_integer : (h : ℕ) (t : DataType) (mask : Option ℕ) (n : ℕ) → keeps_sign t None ≡ true
    → h ≤ 2 ^ 63 → n < 2 * h → IsInteger (keeps_sign t mask) (signed_in h mask n)
signed_integer h t None n keeps low small =
    subst (λ (b : Bool). IsInteger b (signed_in h None n)) (sym keeps)
    (twos_complement h n, refl, twos_fits h n low small)
signed_integer h t (Some mask) n keeps low small =
    (masked mask n, refl, masked_small mask n (omega (arith, low, small)))

unsigned_mask : (t : DataType) (mask : Option ℕ) (n : ℕ) → keeps_sign t None ≡ false
    → n < 2 ^ 64 → IsInteger (keeps_sign t mask) (unsigned_in mask n)
unsigned_mask t None n keeps small =
    subst (λ (b : Bool). IsInteger b (unsigned_in None n)) (sym keeps)
    (unsigned_integer None n small)
unsigned_mask t (Some mask) n keeps small = unsigned_integer (Some mask) n small

-- the raw value of an integer type
pub integer_raw : (o : Option BitOperation) (t : DataType) (mask : Option ℕ) (n : ℕ)
    → is_float t ≡ false → n < 256 ^ size_of t
    → IsInteger (signed_by o (keeps_sign t mask)) (raw_by o t mask n)
integer_raw None type.UByte mask n int small =
    unsigned_mask type.UByte mask n refl (omega (arith, small))
integer_raw None type.SByte mask n int small =
    signed_integer (2 ^ 7) type.SByte mask n refl (omega arith) (omega (arith, small))
integer_raw None type.UWord mask n int small =
    unsigned_mask type.UWord mask n refl (omega (arith, small))
integer_raw None type.SWord mask n int small =
    signed_integer (2 ^ 15) type.SWord mask n refl (omega arith) (omega (arith, small))
integer_raw None type.ULong mask n int small =
    unsigned_mask type.ULong mask n refl (omega (arith, small))
integer_raw None type.SLong mask n int small =
    signed_integer (2 ^ 31) type.SLong mask n refl (omega arith) (omega (arith, small))
integer_raw None type.AUint64 mask n int small =
    unsigned_mask type.AUint64 mask n refl (omega (arith, small))
integer_raw None type.AInt64 mask n int small =
    signed_integer (2 ^ 63) type.AInt64 mask n refl (omega arith) (omega (arith, small))
integer_raw None type.Float16 mask n int small = let e : true ≡ false = int in absurd cc
integer_raw None type.Float32 mask n int small = let e : true ≡ false = int in absurd cc
integer_raw None type.Float64 mask n int small = let e : true ≡ false = int in absurd cc
integer_raw (Some o) type.UByte mask n int small =
    operated_integer o (o.extends_sign || keeps_sign type.UByte mask) (mask_in type.UByte mask) n
integer_raw (Some o) type.SByte mask n int small =
    operated_integer o (o.extends_sign || keeps_sign type.SByte mask) (mask_in type.SByte mask) n
integer_raw (Some o) type.UWord mask n int small =
    operated_integer o (o.extends_sign || keeps_sign type.UWord mask) (mask_in type.UWord mask) n
integer_raw (Some o) type.SWord mask n int small =
    operated_integer o (o.extends_sign || keeps_sign type.SWord mask) (mask_in type.SWord mask) n
integer_raw (Some o) type.ULong mask n int small =
    operated_integer o (o.extends_sign || keeps_sign type.ULong mask) (mask_in type.ULong mask) n
integer_raw (Some o) type.SLong mask n int small =
    operated_integer o (o.extends_sign || keeps_sign type.SLong mask) (mask_in type.SLong mask) n
integer_raw (Some o) type.AUint64 mask n int small =
    operated_integer o (o.extends_sign || keeps_sign type.AUint64 mask)
    (mask_in type.AUint64 mask) n
integer_raw (Some o) type.AInt64 mask n int small =
    operated_integer o (o.extends_sign || keeps_sign type.AInt64 mask) (mask_in type.AInt64 mask) n
integer_raw (Some o) type.Float16 mask n int small = let e : true ≡ false = int in absurd cc
integer_raw (Some o) type.Float32 mask n int small = let e : true ≡ false = int in absurd cc
integer_raw (Some o) type.Float64 mask n int small = let e : true ≡ false = int in absurd cc

-- the bits of a signed integer, read as one
twos_back : (n : ℕ) → n < 2 ^ 64 → twos_complement (2 ^ 63) n ≡ cast_signed w64 n
twos_back n small =
    elim (nat_lt n (2 ^ 63)) as (λ b. (if b then pos n else pos n -ℤ pos (2 * 2 ^ 63))
    ≡ (if b then pos n else negsuc (2 ^ 64 - suc n))) [
      | true ↦ refl
      | false ↦ difference n (2 ^ 64) small
    ]

-- its whole number has 64 bits
pub whole_small : (b : Bool) (r : Raw) → IsInteger b r → whole_number r < 2 ^ 64
whole_small true r is =
    let bits = Fits-of_z {w = w64} {z = is.0} is.2 in
    subst (λ (x : Raw). whole_number x < 2 ^ 64) (sym is.1) (omega (arith, bits))
whole_small false r is =
    subst (λ (x : Raw). whole_number x < 2 ^ 64) (sym is.1) is.2

abbrev pub own_format : Bool → ValueFormat
own_format b = if b then Signed MsbLast else Unsigned MsbLast

-- and is read back
pub whole_back : (b : Bool) (r : Raw) → IsInteger b r
    → raw_of_bits (own_format b) 64 (whole_number r) ≡ r
whole_back true r is =
    let bits = Fits-of_z {w = w64} {z = is.0} is.2 in
    subst (λ (x : Raw). raw_of_bits (own_format true) 64 (whole_number x) ≡ x) (sym is.1)
    (ap raw.Signed (twos_back (cast_unsigned w64 is.0) (omega (arith, bits))
    ∙ to_z-of_z {w = w64} {z = is.0} is.2))
whole_back false r is =
    subst (λ (x : Raw). raw_of_bits (own_format false) 64 (whole_number x) ≡ x) (sym is.1) refl

pub own_order : (b : Bool) → order_of (own_format b) ≡ MsbLast
own_order true = refl
own_order false = refl
