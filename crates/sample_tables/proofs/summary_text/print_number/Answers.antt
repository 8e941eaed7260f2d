use Rattle.std.proofs.Common.{rules}
use Rattle.sample_tables.proofs.summary_text.print_number.Goals as goal

-- the number is laid out as it says
pub returns : goal.returns
returns g c = rw (← c.laid_out.ensures) (search rules)
