use Rattle.std.proofs.Common.{◌≡◌, ap, sym, ◌∙◌, arith}
use Rattle.measured_values.specs.Raws.{highest_bit}
use Rattle.measured_values.proofs.ShiftLemmas.{highest_of_zero}
use Rattle.measured_values.proofs.raw_bytes.highest_bit.Goals as goal

-- no bit is set in 0
pub returns-then-number-eq0-clause-value : goal.returns-then-number-eq0-clause-value
returns-then-number-eq0-clause-value c =
    let none : c.args.number ≡ 0 = omega (arith, c.if-number-eq0.true) in
    sym (ap highest_bit none ∙ highest_of_zero)
