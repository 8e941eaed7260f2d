use Rattle.std.proofs.Common.{rules}
use Rattle.sample_tables.proofs.summary_text.print_ticks.Goals as goal

-- the ticks are printed
pub returns-in-Some : goal.returns-in-Some
returns-in-Some g c = rw (c.in-Some.is, ← c.laid_out.ensures) (search rules)

-- and `-` where there are none
pub returns-in-None : goal.returns-in-None
returns-in-None g c = rw c.in-None.is c.write-in-None.ensures.bytes
