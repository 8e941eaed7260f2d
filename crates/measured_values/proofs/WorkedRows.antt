-- Rows worked by hand, which the definitions have to give.
use Rattle.std.proofs.Common.{◌≡◌, ◌*◌, ◌∷◌, [], codes, negsuc, pos, refl, true, false}
use Rattle.std.specs.Prelude.{bit_and}
use Rattle.measured_values.specs.declared.bit_operation.BitOperation.{BitOperation}
use Rattle.measured_values.specs.declared.byte_order.ByteOrder.TheVariants.{MsbFirst, MsbLast}
use Rattle.measured_values.specs.Decimals.{placed}
use Rattle.measured_values.specs.Raws.{half_exponent, half_fraction, half_units, highest_bit, masked, moved, number_of_bytes, sign_extended}
use Rattle.measured_values.specs.Raws.{twos_complement}

intel_word : number_of_bytes MsbLast 2 (0x34 ∷ 0x12 ∷ []) ≡ 0x1234
intel_word = refl

motorola_word : number_of_bytes MsbFirst 2 (0x12 ∷ 0x34 ∷ []) ≡ 0x1234
motorola_word = refl

motorola_long : number_of_bytes MsbFirst 4 (0x12 ∷ 0x34 ∷ 0x56 ∷ 0x78 ∷ []) ≡ 0x12345678
motorola_long = refl

minus_two : twos_complement 128 0xfe ≡ negsuc 1
minus_two = refl

greatest_byte : twos_complement 128 0x7f ≡ pos 127
greatest_byte = refl

-- under a mask of no bit, which no A2L file has
no_bit : masked 0 0xffffffff ≡ 0
unfolding lib.Count.count_trailing_zeros
no_bit = refl

-- 25 with three places is 0.025
three_places : placed (50 ∷ 53 ∷ []) 3 ≡ 48 ∷ 46 ∷ 48 ∷ 50 ∷ 53 ∷ []
three_places = refl

-- the longest time, of as many ticks as there may be, each as long as it may be; and the same in
-- billionths
longest_time : 18446744073709551615 * 4294967295 ≡ 79228162495817593515539431425
longest_time = refl

nine_places : placed (codes "79228162495817593515539431425") 9
    ≡ codes "79228162495817593515.539431425"
nine_places = refl

-- under a mask of F0, B4 moved down by 4 bits is B, whose sign is -5; and so without SIGN_EXTEND 11
abbrev down_by_four : BitOperation
down_by_four = record { left = 0; right = 4; extends_sign = true }

minus_five : sign_extended 8 (moved down_by_four (bit_and 0xb4 0xf0)) ≡ negsuc 4
minus_five = refl

moved_mask : moved down_by_four 0xf0 ≡ 0xf
moved_mask = refl

-- 01 moved up by 4 bits is 16
sixteen : moved (record { left = 4; right = 0; extends_sign = false }) 1 ≡ 16
sixteen = refl

-- the highest bit of F is worth 8
highest_of_fifteen : highest_bit 0xf ≡ 8
unfolding lib.Count.count_leading_zeros
highest_of_fifteen = refl

-- floats of 16 bits, in units of 2 ^ -24: 1 is 3C00, the least one above 0 is 0001, and the greatest
-- one 7BFF, which is 65504
half_of_one : half_units (half_exponent 0x3c00) (half_fraction 0x3c00) ≡ 16777216
half_of_one = refl

least_half : half_units (half_exponent 1) (half_fraction 1) ≡ 1
least_half = refl

greatest_half : half_units (half_exponent 0x7bff) (half_fraction 0x7bff) ≡ 65504 * 16777216
greatest_half = refl
