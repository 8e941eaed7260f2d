use Rattle.std.proofs.Common.{◌-◌, neg_ℤ, pos, subst, sym}
use Rattle.measured_values.specs.Decimals.{IsDecimal, placed}
use Rattle.measured_values.proofs.DecimalLemmas.{IsDecimal-fraction}
use Rattle.measured_values.proofs.ResultLemmas.{GrowsBy-by}
use Rattle.measured_values.proofs.seconds.push_fraction.Goals as goal

-- what is left of the number has its point at the right place
pub returns-clause-ok : goal.returns-clause-ok
returns-clause-ok c =
    let zeros = c.without_zeros-digits.ensures in
    let decimal = subst (λ ds. IsDecimal c.args.number (neg_ℤ (pos c.args.places))
    (placed ds (c.args.places - c.without_zeros-digits.result.1)))
    (sym c.format.ensures.text) (IsDecimal-fraction _ _ _ _ zeros.worth zeros.most zeros.done
    c.requires c.ranges.number.fits) in
    GrowsBy-by _ _ _ _ _ c.push_placed.ensures.ok decimal
