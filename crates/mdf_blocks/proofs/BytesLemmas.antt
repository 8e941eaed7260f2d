-- The number of bytes, and of some bytes among others.
use Rattle.std.proofs.Common.{◌≡◌, ℕ, zero, suc, ◌+◌, ◌-◌, ◌*◌, ◌^◌, ◌<◌, ◌≤◌, List, []}
use Rattle.std.proofs.Common.{◌∷◌, ◌++◌}
use Rattle.std.proofs.Common.{◌∙◌, All, length, take, get_or, refl, sym, ap, arith}
use Rattle.std.proofs.Common.{mul_assoc, lit<}
use Rattle.std.proofs.Math.Nat.{mul-le-mul_right, mul_comm, pow-succ'}
use Rattle.std.proofs.lemmas.List.{length-take-le, take_more}
use Rattle.std.proofs.lemmas.List.Elements.{All-head, All-tail}
use Rattle.std.specs.Int.{sum_through}
use Rattle.std.specs.Prelude.{slice_index}
use Rattle.measured_values.specs.Raws.{number_of_bytes}
use Rattle.measured_values.specs.declared.byte_order.ByteOrder.{ByteOrder}
use Rattle.measured_values.specs.declared.byte_order.ByteOrder.TheVariants.{MsbFirst, MsbLast}

-- the number of bytes, lowest first
abbrev pub le : List ℕ → ℕ
le [] = 0
le (b ∷ bs) = b + 256 * le bs

-- highest first, behind others
abbrev pub be_on : ℕ → List ℕ → ℕ
be_on acc [] = acc
be_on acc (b ∷ bs) = be_on (acc * 256 + b) bs

pub le-append : (xs ys : List ℕ) → le (xs ++ ys) ≡ le xs + 256 ^ length xs * le ys
le-append [] ys = omega arith
le-append (x ∷ xs) ys =
    let rest = le-append xs ys in
    let power : 256 ^ suc (length xs) * le ys ≡ 256 * (256 ^ length xs * le ys) =
    ap (λ p. p * le ys) (pow-succ' 256 (length xs)) ∙ mul_assoc 256 (256 ^ length xs) (le ys) in
    omega (arith, rest, power)

pub le-lt : (xs : List ℕ) → All (λ b. b < 256) xs → le xs < 256 ^ length xs
le-lt [] all = lit< tt
le-lt (x ∷ xs) all =
    let head = All-head (λ b. b < 256) x xs all in
    let rest = le-lt xs (All-tail (λ b. b < 256) x xs all) in
    omega (arith, head, rest, pow-succ' 256 (length xs))

pub be_on-append : (acc : ℕ) (xs ys : List ℕ) → be_on acc (xs ++ ys) ≡ be_on (be_on acc xs) ys
be_on-append acc [] ys = refl
be_on-append acc (x ∷ xs) ys = be_on-append (acc * 256 + x) xs ys

pub be_on-split : (acc : ℕ) (xs : List ℕ) → be_on acc xs ≡ acc * 256 ^ length xs + be_on 0 xs
be_on-split acc [] = omega arith
be_on-split acc (x ∷ xs) =
    let one = be_on-split (acc * 256 + x) xs in
    let none = be_on-split (0 * 256 + x) xs in
    let power : acc * 256 ^ suc (length xs) ≡ acc * 256 * 256 ^ length xs =
    ap (λ p. acc * p) (pow-succ' 256 (length xs)) ∙ sym (mul_assoc acc 256 (256 ^ length xs)) in
    omega (arith, one, none, power)

pub be_on-lt : (xs : List ℕ) → All (λ b. b < 256) xs → be_on 0 xs < 256 ^ length xs
be_on-lt [] all = lit< tt
be_on-lt (x ∷ xs) all =
    let head = All-head (λ b. b < 256) x xs all in
    let rest = be_on-lt xs (All-tail (λ b. b < 256) x xs all) in
    let split = be_on-split (0 * 256 + x) xs in
    let p : ℕ = 256 ^ length xs in
    let upto : x ≤ 255 = omega (arith, head) in
    let most : x * p ≤ 255 * p = mul-le-mul_right p upto in
    let plain : (0 * 256 + x) * p ≡ x * p = ap (λ k. k * p) (omega arith) in
    omega (arith, most, rest, split, plain, pow-succ' 256 (length xs))

-- the sum that is the number of the first bytes, lowest first
le_sum : (xs : List ℕ) (k : ℕ) → k < length xs
    → sum_through (λ i. slice_index xs i * 256 ^ i) k ≡ le (take (k + 1) xs)
le_sum [] zero within = absurd (omega (arith, within))
le_sum (x ∷ xs) zero within = omega arith
le_sum xs (suc k) within =
    let here : k < length xs = omega (arith, within) in
    let next : suc k < length xs = within in
    let before = le_sum xs k here in
    let more : take (suc k + 1) xs ≡ take (suc k) xs ++ get_or xs (suc k) 0 ∷ [] =
    take_more xs (suc k) 0 next in
    let same : suc k ≡ k + 1 = omega arith in
    let long : length (take (suc k) xs) ≡ suc k = length-take-le (suc k) xs (omega (arith, within))
    in
    let joined = le-append (take (suc k) xs) (get_or xs (suc k) 0 ∷ []) in
    let power : 256 ^ length (take (suc k) xs) * le (get_or xs (suc k) 0 ∷ [])
    ≡ get_or xs (suc k) 0 * 256 ^ suc k =
    ap (λ n. 256 ^ n * le (get_or xs (suc k) 0 ∷ [])) long
    ∙ ap (λ n. 256 ^ suc k * n) (omega arith) ∙ mul_comm (256 ^ suc k) (get_or xs (suc k) 0) in
    ap (λ n. n + get_or xs (suc k) 0 * 256 ^ suc k) (before ∙ ap (λ n. le (take n xs)) (sym same))
    ∙ ap (λ n. le (take (suc k) xs) + n) (sym power) ∙ sym joined ∙ ap le (sym more)

-- highest first
be_sum : (xs : List ℕ) (n k : ℕ) → k < n → n ≤ length xs
    → sum_through (λ i. slice_index xs i * 256 ^ (n - 1 - i)) k
    ≡ be_on 0 (take (k + 1) xs) * 256 ^ (n - 1 - k)
be_sum [] n zero within inside = absurd (omega (arith, within, inside))
be_sum (x ∷ xs) n zero within inside = omega arith
be_sum xs n (suc k) within inside =
    let here : k < n = omega (arith, within) in
    let next : suc k < length xs = omega (arith, within, inside) in
    let before = be_sum xs n k here inside in
    let more : take (suc k + 1) xs ≡ take (suc k) xs ++ get_or xs (suc k) 0 ∷ [] =
    take_more xs (suc k) 0 next in
    let same : suc k ≡ k + 1 = omega arith in
    let left : n - 1 - k ≡ suc (n - 1 - suc k) = omega (arith, within) in
    let y : ℕ = get_or xs (suc k) 0 in
    let p : ℕ = 256 ^ (n - 1 - suc k) in
    let head : ℕ = be_on 0 (take (suc k) xs) in
    let power : 256 ^ (n - 1 - k) ≡ 256 * p = ap (λ m. 256 ^ m) left
    ∙ pow-succ' 256 (n - 1 - suc k) in
    let joined : be_on 0 (take (suc k + 1) xs) ≡ head * 256 + y =
    ap (be_on 0) more ∙ be_on-append 0 (take (suc k) xs) (y ∷ []) in
    let so_far : sum_through (λ i. slice_index xs i * 256 ^ (n - 1 - i)) k ≡ head * (256 * p) =
    before ∙ ap (λ m. be_on 0 (take m xs) * 256 ^ (n - 1 - k)) (sym same)
    ∙ ap (λ q. head * q) power in
    let spread : (head * 256 + y) * p ≡ head * (256 * p) + y * p =
    omega (arith, mul_assoc head 256 p) in
    ap (λ m. m + y * p) so_far ∙ sym spread ∙ ap (λ m. m * p) (sym joined)

-- the number of bytes
abbrev pub num : ByteOrder → List ℕ → ℕ
num MsbLast xs = le xs
num MsbFirst xs = be_on 0 xs

pub number_is : (order : ByteOrder) (xs : List ℕ) (n : ℕ) → 0 < n → n ≤ length xs
    → number_of_bytes order n xs ≡ num order (take n xs)
number_is MsbLast xs n some inside =
    let last : n - 1 + 1 ≡ n = omega (arith, some) in
    le_sum xs (n - 1) (omega (arith, some, inside)) ∙ ap (λ k. le (take k xs)) last
number_is MsbFirst xs n some inside =
    let last : n - 1 + 1 ≡ n = omega (arith, some) in
    let none : n - 1 - (n - 1) ≡ 0 = omega arith in
    be_sum xs n (n - 1) (omega (arith, some)) inside
    ∙ ap (λ k. be_on 0 (take k xs) * 256 ^ (n - 1 - (n - 1))) last
    ∙ ap (λ k. be_on 0 (take n xs) * 256 ^ k) none
    ∙ omega arith
