use Rattle.measured_values.proofs.PowerLemmas.{one_zero_more}
use Rattle.measured_values.proofs.trailing_zeros.without_zeros.Goals as goal

-- a zero that is taken away counts as a power of ten
pub loop-zeros-preserved : goal.loop-zeros-preserved
loop-zeros-preserved c =
    one_zero_more c.args.number c.loop-zeros.rest c.loop-zeros.zeros c.loop-zeros.invariant
    c.if-rest-ne0.false
