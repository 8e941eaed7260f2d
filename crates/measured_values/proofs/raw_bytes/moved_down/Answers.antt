use Rattle.std.proofs.Common.{sym, arith}
use Rattle.measured_values.proofs.ShiftLemmas.{moved_below}
use Rattle.measured_values.proofs.raw_bytes.moved_down.Goals as goal

pub returns-else-bits-lt64 : goal.returns-else-bits-lt64
returns-else-bits-lt64 c = sym (moved_below c.args.number c.args.bits c.ranges.number.fits (omega (arith, c.if-bits-lt64.false)))
