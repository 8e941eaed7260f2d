-- Powers of ten.
use Rattle.std.proofs.Common.{◌≡◌, ◌≢◌, ℕ, zero, suc, ◌+◌, ◌*◌, ◌/◌, ◌%◌, ◌^◌, ◌<◌, ◌≤◌, arith, sym}
use Rattle.std.proofs.Common.{ap, ◌∙◌, refl, subst, mul_assoc, pow-suc, add-one, mul-le-mul_left}
use Rattle.std.proofs.Common.{lit<, ⊎_elim, eq-or-lt_of_le}
use Rattle.std.proofs.Common.{mul-le-mul_right, pow-add, le-mul_of_pos_right, zero-mul}
use Rattle.std.proofs.Math.Nat.{one-le-pow, pow-le-pow_right, pow-succ'}

-- a power of ten more
times_ten : (m a : ℕ) → m * 10 ^ suc a ≡ m * 10 ^ a * 10
times_ten m a = ap (λ k. m * k) (pow-suc 10 a) ∙ sym (mul_assoc m (10 ^ a) 10)

-- a number that doesn't end in a zero, and a power of ten, are found again in their product
pub same_from_product : (m n a b : ℕ) → m % 10 ≢ 0 → n % 10 ≢ 0 → m * 10 ^ a ≡ n * 10 ^ b
    → (m ≡ n) × (a ≡ b)
same_from_product m n zero zero m_ends n_ends e =
    let same : m ≡ n = omega (arith, e) in (same, refl)
same_from_product m n (suc a) zero m_ends n_ends e =
    let ends : n % 10 ≡ 0 = omega (arith, e, times_ten m a) in
    absurd (n_ends ends)
same_from_product m n zero (suc b) m_ends n_ends e =
    let ends : m % 10 ≡ 0 = omega (arith, e, times_ten n b) in
    absurd (m_ends ends)
same_from_product m n (suc a) (suc b) m_ends n_ends e =
    let below : m * 10 ^ a ≡ n * 10 ^ b =
    omega (arith, e, times_ten m a, times_ten n b) in
    let rest = same_from_product m n a b m_ends n_ends below in
    (rest.0, ap suc rest.1)

-- a zero more that a number ends in
pub one_zero_more : (number rest zeros : ℕ) → number ≡ rest * 10 ^ zeros → rest % 10 ≡ 0
    → number ≡ rest / 10 * 10 ^ (zeros + 1)
one_zero_more number rest zeros e ends =
    let tens : rest ≡ rest / 10 * 10 = omega arith in
    let step : 10 ^ (zeros + 1) ≡ 10 * 10 ^ zeros = rw add-one (pow-succ' 10 zeros) in
    e ∙ ap (λ n. n * 10 ^ zeros) tens ∙ mul_assoc (rest / 10) 10 (10 ^ zeros)
    ∙ ap (λ k. rest / 10 * k) (sym step)

-- a digit more still fits, where all digits do
pub room_for_digit : (n i k sum : ℕ) → sum < (n + 1) * 10 ^ i → i < k
    → (n + 1) * 10 ^ k ≤ 10 ^ 30
    → (10 * sum + 10 ≤ 10 ^ 30) × (10 * sum + 9 < (n + 1) * 10 ^ (i + 1))
room_for_digit n i k sum below within fits =
    let step : (n + 1) * 10 ^ (i + 1) ≡ (n + 1) * 10 ^ i * 10 =
    ap (λ p. (n + 1) * 10 ^ p) (add-one i) ∙ times_ten (n + 1) i in
    let more : (n + 1) * 10 ^ (i + 1) ≤ (n + 1) * 10 ^ k =
    mul-le-mul_left (n + 1) (pow-le-pow_right (lit< tt) (omega (arith, within))) in
    (omega (arith, step, more, below, fits), omega (arith, step, below))

-- a number that isn't 0 and has at most 30 digits ends in fewer than 30 zeros
pub few_zeros : (n rest ends : ℕ) → n ≡ rest * 10 ^ ends → 0 < n → n < 10 ^ 30 → ends ≤ 30
    → ends < 30
few_zeros n rest ends e some small most =
    ⊎_elim (λ all. let all_zeros : n ≡ rest * 10 ^ 30 = subst (λ z. n ≡ rest * 10 ^ z) all e in
    absurd (omega (arith, all_zeros, some, small)))
    (λ fewer. fewer) (eq-or-lt_of_le most)

-- digits alone, and behind others: all of them have room
pub room_alone : (w f : ℕ) → w + f ≤ 30 → 1 * 10 ^ w ≤ 10 ^ 30
room_alone w f short =
    let within : w ≤ 30 = omega (arith, short) in
    let power : 10 ^ w ≤ 10 ^ 30 = pow-le-pow_right {n = 10} (lit< tt) {i = w} {j = 30} within in
    omega (arith, power)

pub room_behind : (n w f : ℕ) → n < 1 * 10 ^ w → w + f ≤ 30 → (n + 1) * 10 ^ f ≤ 10 ^ 30
room_behind n w f below short =
    let front : n + 1 ≤ 10 ^ w = omega (arith, below) in
    let both : (n + 1) * 10 ^ f ≤ 10 ^ w * 10 ^ f = mul-le-mul_right (10 ^ f) front in
    let joined : 10 ^ (w + f) ≡ 10 ^ w * 10 ^ f = pow-add 10 w f in
    let power : 10 ^ (w + f) ≤ 10 ^ 30 =
    pow-le-pow_right {n = 10} (lit< tt) {i = w + f} {j = 30} short in
    omega (arith, both, joined, power)

-- what is left of a number without zeros that it ends in
pub rest-le : (n rest ends : ℕ) → n ≡ rest * 10 ^ ends → rest ≤ n
rest-le n rest ends e =
    let power : 0 < 10 ^ ends = one-le-pow ends 10 (lit< tt) in
    let more : rest ≤ rest * 10 ^ ends = le-mul_of_pos_right rest power in
    omega (arith, more, e)

pub rest_some : (n rest ends : ℕ) → n ≡ rest * 10 ^ ends → 0 < n → 0 < rest
rest_some n zero ends e some = absurd (omega (arith, e, some, zero-mul (10 ^ ends)))
rest_some n (suc r) ends e some = omega arith
