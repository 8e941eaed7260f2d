-- Digits, the number that they write, and the digits that a number is written with.
use Rattle.std.proofs.Common.{◌≡◌, ℕ, zero, suc, ◌+◌, ◌-◌, ◌*◌, ◌/◌, ◌%◌, ◌^◌, ◌<◌, ◌≤◌, List}
use Rattle.std.proofs.Common.{[], ◌∷◌, ◌++◌, length, get_or, take, drop, replicate, decimal, arith}
use Rattle.std.proofs.Common.{refl, sym, ap, ◌∙◌, length-append, mul-one, add-zero, mul_assoc, lit<}
use Rattle.std.proofs.Common.{get_or-append-add, append_assoc, suc-add}
use Rattle.std.proofs.Math.Nat.{pow-succ'}
use Rattle.std.proofs.lemmas.Bool.Decides.{nat_tests}
use Rattle.std.proofs.lemmas.Fmt.{decimal_by_steps_wide}
use Rattle.std.proofs.lemmas.List.{get_or_push, length_push, take_more}
use Rattle.std.proofs.lemmas.Str.Parse.{digit_at}
use Rattle.std.specs.Char.{digit_value}
use Rattle.std.specs.Str.Parse.{AllDigits, digits_value_after}

-- the number of digits behind others
pub digits_value_after-append : (n : ℕ) (xs ys : List ℕ)
    → digits_value_after 10 n (xs ++ ys) ≡ digits_value_after 10 (digits_value_after 10 n xs) ys
digits_value_after-append n [] ys = refl
digits_value_after-append n (x ∷ xs) ys =
    digits_value_after-append (n * 10 + digit_value x) xs ys

-- zeros behind a number
pub digits_value_after-zeros : (n k : ℕ) → digits_value_after 10 n (replicate k 48) ≡ n * 10 ^ k
digits_value_after-zeros n zero = sym (mul-one n)
digits_value_after-zeros n (suc k) =
    let rest = digits_value_after-zeros (n * 10 + 0) k in
    rest ∙ ap (λ m. m * 10 ^ k) (add-zero (n * 10)) ∙ mul_assoc n 10 (10 ^ k)
    ∙ ap (λ p. n * p) (sym (pow-succ' 10 k))

-- zeros in front of digits
pub digits_value-front_zeros : (k : ℕ) (ds : List ℕ)
    → digits_value_after 10 0 (replicate k 48 ++ ds) ≡ digits_value_after 10 0 ds
digits_value-front_zeros zero ds = refl
digits_value-front_zeros (suc k) ds = digits_value-front_zeros k ds

pub AllDigits-append : (xs ys : List ℕ) → AllDigits 10 xs → AllDigits 10 ys
    → AllDigits 10 (xs ++ ys)
AllDigits-append [] ys all_xs all_ys = all_ys
AllDigits-append (x ∷ xs) ys all_xs all_ys = (all_xs.0, AllDigits-append xs ys all_xs.1 all_ys)

pub AllDigits-zeros : (k : ℕ) → AllDigits 10 (replicate k 48)
AllDigits-zeros zero = tt
AllDigits-zeros (suc k) = (lit< tt, AllDigits-zeros k)

pub AllDigits-take : (k : ℕ) (ds : List ℕ) → AllDigits 10 ds → AllDigits 10 (take k ds)
AllDigits-take zero ds all = tt
AllDigits-take (suc k) [] all = tt
AllDigits-take (suc k) (d ∷ ds) all = (all.0, AllDigits-take k ds all.1)

pub AllDigits-drop : (k : ℕ) (ds : List ℕ) → AllDigits 10 ds → AllDigits 10 (drop k ds)
AllDigits-drop zero ds all = all
AllDigits-drop (suc k) [] all = tt
AllDigits-drop (suc k) (d ∷ ds) all = AllDigits-drop k ds all.1

-- the first of a list that isn't empty stays the first
pub first-append : (xs ys : List ℕ) → 0 < length xs → get_or (xs ++ ys) 0 0 ≡ get_or xs 0 0
first-append [] ys some = absurd (omega (arith, some))
first-append (x ∷ xs) ys some = refl

-- the last of a list
abbrev pub last_of : List ℕ → ℕ
last_of xs = get_or xs (length xs - 1) 0

-- the last of a list that isn't empty, behind another
pub last-append : (xs ys : List ℕ) → 0 < length ys → last_of (xs ++ ys) ≡ last_of ys
last-append xs ys some =
    let place : length (xs ++ ys) - 1 ≡ length xs + (length ys - 1) =
    omega (arith, length-append xs ys) in
    ap (λ k. get_or (xs ++ ys) k 0) place ∙ get_or-append-add xs ys (length ys - 1) 0

-- how a number is written: its digits, of which the first isn't 0 and the last is the number's
pub record IsWritten (n : ℕ) (ds : List ℕ) : Type 0 where
  pub some : 0 < length ds
  pub front : 0 < n → 48 < get_or ds 0 0
  pub last : last_of ds ≡ 48 + n % 10

one_digit : (n : ℕ) → n < 10 → IsWritten n ((48 + n) ∷ [])
one_digit n small = record {
  some = omega arith;
  front = λ some. omega (arith, some);
  last = omega arith;
}

digits_more : (n : ℕ) (ds : List ℕ) → 10 ≤ n → IsWritten (n / 10) ds
    → IsWritten n (ds ++ ((48 + n % 10) ∷ []))
digits_more n ds ten written = record {
  some = omega (arith, length_push ds (48 + n % 10));
  front = λ _. let more : 0 < n / 10 = omega arith in
      rw (first-append ds ((48 + n % 10) ∷ []) written.some) (written.front more);
  last = get_or_push ds (48 + n % 10) 0 (length (ds ++ (48 + n % 10) ∷ []) - 1)
      (omega (arith, length_push ds (48 + n % 10)));
}

pub decimal_is_written : (n : ℕ) → n < 10 ^ 64 → IsWritten n (decimal n)
decimal_is_written n small = decimal_by_steps_wide IsWritten one_digit digits_more n small

digit_value_is : (c : ℕ) → (48 ≤ c) × (c ≤ 57) → digit_value c ≡ c - 48
digit_value_is c within = grind (arith, nat_tests)

-- one digit more
pub digits_value_after-more : (n : ℕ) (ds : List ℕ) (i : ℕ) → i < length ds → AllDigits 10 ds
    → digits_value_after 10 n (take (i + 1) ds)
    ≡ 10 * digits_value_after 10 n (take i ds) + (get_or ds i 0 - 48)
digits_value_after-more n ds i within all =
    let value : digit_value (get_or ds i 0) ≡ get_or ds i 0 - 48 =
    digit_value_is _ (digit_at ds i all within) in
    let more : digits_value_after 10 n (take (i + 1) ds)
    ≡ digits_value_after 10 n (take i ds) * 10 + digit_value (get_or ds i 0) =
    ap (digits_value_after 10 n) (take_more ds i 0 within)
    ∙ digits_value_after-append n (take i ds) (get_or ds i 0 ∷ []) in
    omega (arith, value, more)

-- one zero more
replicate-more : (k : ℕ) → replicate {A = ℕ} (k + 1) 48 ≡ replicate k 48 ++ 48 ∷ []
replicate-more zero = refl
replicate-more (suc k) =
    ap (λ n. replicate {A = ℕ} n 48) (suc-add k 1)
    ∙ ap (λ (zs : List ℕ). 48 ∷ zs) (replicate-more k)

pub zero_pushed : (start now new one : List ℕ) (k : ℕ) → now ≡ start ++ replicate k 48
    → new ≡ now ++ one → one ≡ 48 ∷ [] → new ≡ start ++ replicate (k + 1) 48
zero_pushed start now new one k now_is new_is one_is =
    new_is ∙ ap (λ (xs : List ℕ). xs ++ one) now_is
    ∙ ap (λ (xs : List ℕ). (start ++ replicate k 48) ++ xs) one_is
    ∙ append_assoc start (replicate k 48) (48 ∷ [])
    ∙ ap (λ (zs : List ℕ). start ++ zs) (sym (replicate-more k))

-- digits behind others, read one after the other
pub digits_value-joined : (n w : ℕ) (xs ys whole fraction : List ℕ)
    → w ≡ digits_value_after 10 0 xs → n ≡ digits_value_after 10 w ys → xs ≡ whole
    → ys ≡ fraction → n ≡ digits_value_after 10 0 (whole ++ fraction)
digits_value-joined n w xs ys whole fraction w_is n_is xs_is ys_is =
    n_is ∙ ap (λ k. digits_value_after 10 k ys) w_is
    ∙ sym (digits_value_after-append 0 xs ys)
    ∙ ap (λ (zs : List ℕ). digits_value_after 10 0 (zs ++ ys)) xs_is
    ∙ ap (λ (zs : List ℕ). digits_value_after 10 0 (whole ++ zs)) ys_is
