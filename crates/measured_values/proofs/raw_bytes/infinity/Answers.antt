use Rattle.std.proofs.Common.{refl}
use Rattle.measured_values.proofs.raw_bytes.infinity.Goals as goal

-- its bits are those of that
pub returns : goal.returns
unfolding lib.Ieee.of_bits
returns c = refl
