-- Bits that are moved out of a number, and the highest bit of none.
use Rattle.std.proofs.Common.{◌≡◌, ℕ, ◌+◌, ◌-◌, ◌*◌, ◌/◌, ◌%◌, ◌^◌, ◌<◌, ◌≤◌, ap, sym, ◌∙◌, arith, lit<, mul_assoc, pow-add}
use Rattle.std.proofs.Math.Nat.{div-eq_of_lt, mul-mod_left, pow-le-pow_right}
use Rattle.std.specs.Int.Count.{leading_of_zero}
use Rattle.measured_values.specs.Raws.{highest_bit}

-- moved up by 64 bits or more, a number leaves none within 64
pub moved_out : (n k : ℕ) → 64 ≤ k → n * 2 ^ k % 2 ^ 64 ≡ 0
moved_out n k far =
    let parts : k ≡ (k - 64) + 64 = omega (arith, far) in
    let power : 2 ^ k ≡ 2 ^ (k - 64) * 2 ^ 64 = ap (λ (j : ℕ). 2 ^ j) parts ∙ pow-add 2 (k - 64) 64 in
    ap (λ (p : ℕ). n * p % 2 ^ 64) power
    ∙ ap (λ (m : ℕ). m % 2 ^ 64) (sym (mul_assoc n (2 ^ (k - 64)) (2 ^ 64)))
    ∙ mul-mod_left (n * 2 ^ (k - 64)) (2 ^ 64)

-- moved down by 64 bits or more, a number of 64 bits is 0
pub moved_below : (n k : ℕ) → n < 2 ^ 64 → 64 ≤ k → n / 2 ^ k ≡ 0
moved_below n k fits far =
    let least : 2 ^ 64 ≤ 2 ^ k = pow-le-pow_right (lit< tt) far in
    div-eq_of_lt (omega (arith, fits, least))

pub highest_of_zero : highest_bit 0 ≡ 1
highest_of_zero = ap (λ (k : ℕ). 2 ^ (63 - k)) (leading_of_zero 64)
