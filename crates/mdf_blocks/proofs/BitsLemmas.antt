-- Bits of a number that are bits of a part of its bytes.
use Rattle.std.proofs.Common.{◌≡◌, ℕ, zero, suc, ◌+◌, ◌-◌, ◌*◌, ◌/◌, ◌%◌, ◌^◌, ◌<◌, ◌≤◌, ◌∙◌, refl}
use Rattle.std.proofs.Common.{sym, ap}
use Rattle.std.proofs.Common.{arith, lit<, mul_assoc, pow-add}
use Rattle.std.proofs.Math.Nat.{add-mul-div_left, add-mul-mod_self_left, div-div-eq-div-mul}
use Rattle.std.proofs.Math.Nat.{div-eq_of_lt}
use Rattle.std.proofs.Math.Nat.{one-le-pow, pow-succ'}

-- so many bytes are eight times as many bits
pub pow256 : (q : ℕ) → 256 ^ q ≡ 2 ^ (8 * q)
pow256 zero = refl
pow256 (suc q) =
    let eight : 8 * suc q ≡ 8 + 8 * q = omega arith in
    pow-succ' 256 q ∙ ap (λ p. 256 * p) (pow256 q)
    ∙ sym (pow-add 2 8 (8 * q)) ∙ ap (λ k. 2 ^ k) (sym eight)

pow2_some : (k : ℕ) → 0 < 2 ^ k
pow2_some k = one-le-pow k 2 (lit< tt)

-- bytes that stand below the middle are cut off
pub below_off : (below rest q : ℕ) → below < 256 ^ q → (below + 256 ^ q * rest) / 256 ^ q ≡ rest
below_off below rest q small =
    let some : 0 < 256 ^ q = omega (arith, small) in
    add-mul-div_left below rest some ∙ ap (λ k. k + rest) (div-eq_of_lt small) ∙ omega arith

-- and what stands above the bits
above_off : (middle above bit count r : ℕ)
    → (middle + 2 ^ bit * (2 ^ count * (2 ^ r * above))) / 2 ^ bit % 2 ^ count
    ≡ middle / 2 ^ bit % 2 ^ count
above_off middle above bit count r =
    ap (λ k. k % 2 ^ count)
    (add-mul-div_left middle (2 ^ count * (2 ^ r * above)) (pow2_some bit))
    ∙ add-mul-mod_self_left (middle / 2 ^ bit) (2 ^ count) (2 ^ r * above)

-- the bits from `low` on, of a number of which `q` bytes stand below the middle and others above it
pub middle_bits : (below middle above q n low bit count : ℕ) → below < 256 ^ q
    → low ≡ 8 * q + bit → bit + count ≤ 8 * n
    → (below + 256 ^ q * (middle + 256 ^ n * above)) / 2 ^ low % 2 ^ count
    ≡ middle / 2 ^ bit % 2 ^ count
middle_bits below middle above q n low bit count small low_is within =
    let rest : ℕ = middle + 256 ^ n * above in
    let r : ℕ = 8 * n - (bit + count) in
    let shift : 2 ^ low ≡ 256 ^ q * 2 ^ bit =
    ap (λ k. 2 ^ k) low_is ∙ pow-add 2 (8 * q) bit ∙ ap (λ p. p * 2 ^ bit) (sym (pow256 q)) in
    let parts : 8 * n ≡ bit + (count + r) = omega (arith, within) in
    let power : 256 ^ n ≡ 2 ^ bit * (2 ^ count * 2 ^ r) =
    pow256 n ∙ ap (λ k. 2 ^ k) parts ∙ pow-add 2 bit (count + r)
    ∙ ap (λ p. 2 ^ bit * p) (pow-add 2 count r) in
    let product : 256 ^ n * above ≡ 2 ^ bit * (2 ^ count * (2 ^ r * above)) =
    ap (λ p. p * above) power ∙ mul_assoc (2 ^ bit) (2 ^ count * 2 ^ r) above
    ∙ ap (λ p. 2 ^ bit * p) (mul_assoc (2 ^ count) (2 ^ r) above) in
    ap (λ p. (below + 256 ^ q * rest) / p % 2 ^ count) shift
    ∙ ap (λ k. k % 2 ^ count) (sym (div-div-eq-div-mul (below + 256 ^ q * rest) (256 ^ q)
    (2 ^ bit)))
    ∙ ap (λ k. k / 2 ^ bit % 2 ^ count) (below_off below rest q small)
    ∙ ap (λ k. (middle + k) / 2 ^ bit % 2 ^ count) product
    ∙ above_off middle above bit count r
