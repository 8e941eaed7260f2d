-- The five sums of a list, one by one.
use Rattle.std.proofs.Common.{◌≡◌, ◌≢◌, ℕ, zero, suc, ◌<◌, ◌≤◌, refl, arith}
use Rattle.slave_channels.specs.Accounts.{row}
use Rattle.slave_channels.specs.AccountInner.{with_row}
use Rattle.slave_channels.specs.declared.sums.Sums.{Sums}
use Rattle.slave_channels.specs.declared.totals.Totals.{Totals}

-- what was put there is there
pub row-with : (k : ℕ) (t : Totals) (s : Sums) → row k (with_row k t s) ≡ t
row-with zero t s = refl
row-with (suc zero) t s = refl
row-with (suc (suc zero)) t s = refl
row-with (suc (suc (suc zero))) t s = refl
row-with (suc (suc (suc (suc k)))) t s = refl

-- the others are as they were
pub row-beside : (i k : ℕ) (t : Totals) (s : Sums) → i ≢ k → i < 4 → row i (with_row k t s) ≡ row i s
row-beside zero zero t s other few = absurd (other refl)
row-beside zero (suc zero) t s other few = refl
row-beside zero (suc (suc zero)) t s other few = refl
row-beside zero (suc (suc (suc zero))) t s other few = refl
row-beside zero (suc (suc (suc (suc k)))) t s other few = refl
row-beside (suc zero) zero t s other few = refl
row-beside (suc zero) (suc zero) t s other few = absurd (other refl)
row-beside (suc zero) (suc (suc zero)) t s other few = refl
row-beside (suc zero) (suc (suc (suc zero))) t s other few = refl
row-beside (suc zero) (suc (suc (suc (suc k)))) t s other few = refl
row-beside (suc (suc zero)) zero t s other few = refl
row-beside (suc (suc zero)) (suc zero) t s other few = refl
row-beside (suc (suc zero)) (suc (suc zero)) t s other few = absurd (other refl)
row-beside (suc (suc zero)) (suc (suc (suc zero))) t s other few = refl
row-beside (suc (suc zero)) (suc (suc (suc (suc k)))) t s other few = refl
row-beside (suc (suc (suc zero))) zero t s other few = refl
row-beside (suc (suc (suc zero))) (suc zero) t s other few = refl
row-beside (suc (suc (suc zero))) (suc (suc zero)) t s other few = refl
row-beside (suc (suc (suc zero))) (suc (suc (suc zero))) t s other few = absurd (other refl)
row-beside (suc (suc (suc zero))) (suc (suc (suc (suc k)))) t s other few = refl
row-beside (suc (suc (suc (suc i)))) k t s other few = absurd (omega (arith, few))

pub older-beside : (k : ℕ) (t : Totals) (s : Sums) → k < 4 → (with_row k t s).older ≡ s.older
older-beside zero t s few = refl
older-beside (suc zero) t s few = refl
older-beside (suc (suc zero)) t s few = refl
older-beside (suc (suc (suc zero))) t s few = refl
older-beside (suc (suc (suc (suc k)))) t s few = absurd (omega (arith, few))

-- from the fifth on it is the sum of all before
pub older-with : (k : ℕ) (t : Totals) (s : Sums) → 4 ≤ k → (with_row k t s).older ≡ t
older-with zero t s many = absurd (omega (arith, many))
older-with (suc zero) t s many = absurd (omega (arith, many))
older-with (suc (suc zero)) t s many = absurd (omega (arith, many))
older-with (suc (suc (suc zero))) t s many = absurd (omega (arith, many))
older-with (suc (suc (suc (suc k)))) t s many = refl

pub row-older : (k : ℕ) (s : Sums) → 4 ≤ k → row k s ≡ s.older
row-older zero s many = absurd (omega (arith, many))
row-older (suc zero) s many = absurd (omega (arith, many))
row-older (suc (suc zero)) s many = absurd (omega (arith, many))
row-older (suc (suc (suc zero))) s many = absurd (omega (arith, many))
row-older (suc (suc (suc (suc k)))) s many = refl

pub with-older : (k : ℕ) (t : Totals) (s : Sums) → 4 ≤ k → with_row k t s ≡ record s { older = t }
with-older zero t s many = absurd (omega (arith, many))
with-older (suc zero) t s many = absurd (omega (arith, many))
with-older (suc (suc zero)) t s many = absurd (omega (arith, many))
with-older (suc (suc (suc zero))) t s many = absurd (omega (arith, many))
with-older (suc (suc (suc (suc k)))) t s many = refl
