use Rattle.std.proofs.Common.{◌≡◌, ◌*◌, ◌<◌, ◌^◌, ap, arith, int_le, nat_abs, pos, rules, SFits}
use Rattle.std.proofs.Common.{subst, true, w8}
use Rattle.std.proofs.lemmas.Int.{to_z-of_z}
use Rattle.std.proofs.lemmas.Nat.{mul-lt}
use Rattle.measured_values.proofs.DecimalLemmas.{IsDecimal-up, IsDecimal-zero}
use Rattle.measured_values.proofs.ResultLemmas.{GrowsBy-by, GrowsBy-pushed}
use Rattle.measured_values.proofs.seconds.push_seconds.Goals as goal

-- nothing is 0, whatever the exponent
pub returns-then-number-eq0-clause-ok : goal.returns-then-number-eq0-clause-ok
returns-then-number-eq0-clause-ok c =
    GrowsBy-pushed _ _ _ _ _ c.push_str.ensures.bytes (IsDecimal-zero _ _ c.if-number-eq0.true)

-- the exponent is a count of zeros
pub returns-then-tick-ge0-clause-ok : goal.returns-then-tick-ge0-clause-ok
returns-then-tick-ge0-clause-ok c =
    let fits : SFits w8 c.args.tick.exponent = search rules in
    let same = to_z-of_z w8 c.args.tick.exponent fits in
    let some : 0 < c.args.at * c.args.tick.mantissa = omega (arith, c.if-number-eq0.false) in
    let mantissa : c.args.tick.mantissa < 2 ^ 32 = search rules in
    let product = mul-lt _ _ (2 ^ 64) (2 ^ 32) c.ranges.at.fits mantissa in
    GrowsBy-by _ _ _ _ _ c.push_whole.ensures.ok
    (IsDecimal-up _ c.args.tick.exponent _
    (subst (λ z. int_le (pos 0) z ≡ true) same c.if-tick-ge0.true) (ap nat_abs same) some
    (omega (arith, product)))
