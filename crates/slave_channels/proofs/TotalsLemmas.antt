-- Totals modulo 2^64, with one line more and with some that were not sent.
use Rattle.std.proofs.Common.{◌≡◌, ℕ, ◌+◌, ◌-◌, ◌%◌, ◌^◌, ◌≤◌, refl, sym, ap, ◌∙◌, arith}
use Rattle.std.proofs.Math.Nat.{add-mod-mod, add-mod_right, mod-add-mod}
use Rattle.slave_channels.specs.Accounts.{Agree}

-- sums of numbers that agree do
pub agree-plus : (a b c d : ℕ) → Agree a b → Agree c d → Agree (a + c) (b + d)
agree-plus a b c d same equal =
    let m : ℕ = 2 ^ 64 in
    sym (mod-add-mod a m c) ∙ ap (λ x. (x + c) % m) same ∙ mod-add-mod b m c
    ∙ sym (add-mod-mod b c m) ∙ ap (λ x. (b + x) % m) equal ∙ add-mod-mod b d m

-- what is left modulo 2^64 agrees
pub agree-mod : (a : ℕ) → Agree (a % 2 ^ 64) a
agree-mod a =
    let m : ℕ = 2 ^ 64 in
    ap (λ x. x % m) (plus-zero (a % m)) ∙ mod-add-mod a m 0 ∙ ap (λ x. x % m) (sym (plus-zero a)) where
      plus-zero : (x : ℕ) → x ≡ x + 0
      plus-zero x = omega arith

pub agree-same : (a b : ℕ) → a ≡ b → Agree a b
agree-same a b same = ap (λ x. x % 2 ^ 64) same

pub agree-sym : (a b : ℕ) → Agree a b → Agree b a
agree-sym a b same = sym same

-- one sum with one line more
pub more : (t w r x : ℕ) → Agree t w → r ≡ x → Agree ((t + r) % 2 ^ 64) (x + w)
more t w r x same is =
    agree-mod (t + r) ∙ agree-plus t w r x same (agree-same r x is) ∙ agree-same (w + x) (x + w) (omega arith)

-- the same beside what was not sent
pub more-beside : (t u w r x : ℕ) → Agree (t + u) w → r ≡ x → Agree ((t + r) % 2 ^ 64 + u) (x + w)
more-beside t u w r x same is =
    agree-plus ((t + r) % 2 ^ 64) (t + r) u u (agree-mod (t + r)) refl
    ∙ agree-same (t + r + u) (t + u + r) (omega arith)
    ∙ agree-plus (t + u) w r x same (agree-same r x is)
    ∙ agree-same (w + x) (x + w) (omega arith)

-- two sums, each with one line more
pub more-both : (p t v q r x : ℕ) → Agree (p + t) v → q + r ≡ x → Agree ((p + q) % 2 ^ 64 + (t + r) % 2 ^ 64) (x + v)
more-both p t v q r x same is =
    agree-plus ((p + q) % 2 ^ 64) (p + q) ((t + r) % 2 ^ 64) (t + r) (agree-mod (p + q)) (agree-mod (t + r))
    ∙ agree-same (p + q + (t + r)) (p + t + (q + r)) (omega arith)
    ∙ agree-plus (p + t) v (q + r) x same (agree-same (q + r) x is)
    ∙ agree-same (v + x) (x + v) (omega arith)

turn : (a b m n : ℕ) → n ≤ m → a + (m - n) + (b + n) ≡ a + b + m
turn a b m n few = omega (arith, few)

-- what is taken from the one is put to the other
pub moved-beside : (t u w n : ℕ) → n ≤ 2 ^ 64 → Agree (t + u) w → Agree ((t + (2 ^ 64 - n)) % 2 ^ 64 + (u + n)) w
moved-beside t u w n few same =
    let m : ℕ = 2 ^ 64 in
    agree-plus ((t + (m - n)) % m) (t + (m - n)) (u + n) (u + n) (agree-mod (t + (m - n))) refl
    ∙ agree-same (t + (m - n) + (u + n)) (t + u + m) (turn t u m n few)
    ∙ add-mod_right (t + u) m ∙ same

turn-both : (p t m n : ℕ) → n ≤ m → p + n + (t + (m - n)) ≡ p + t + m
turn-both p t m n few = omega (arith, few)

pub moved-both : (p t v n : ℕ) → n ≤ 2 ^ 64 → Agree (p + t) v → Agree ((p + n) % 2 ^ 64 + (t + (2 ^ 64 - n)) % 2 ^ 64) v
moved-both p t v n few same =
    let m : ℕ = 2 ^ 64 in
    agree-plus ((p + n) % m) (p + n) ((t + (m - n)) % m) (t + (m - n)) (agree-mod (p + n)) (agree-mod (t + (m - n)))
    ∙ agree-same (p + n + (t + (m - n))) (p + t + m) (turn-both p t m n few)
    ∙ add-mod_right (p + t) m ∙ same
