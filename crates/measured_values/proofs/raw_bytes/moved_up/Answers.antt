use Rattle.std.proofs.Common.{sym, arith}
use Rattle.measured_values.proofs.ShiftLemmas.{moved_out}
use Rattle.measured_values.proofs.raw_bytes.moved_up.Goals as goal

pub returns-else-bits-lt64 : goal.returns-else-bits-lt64
returns-else-bits-lt64 c = sym (moved_out c.args.number c.args.bits (omega (arith, c.if-bits-lt64.false)))
