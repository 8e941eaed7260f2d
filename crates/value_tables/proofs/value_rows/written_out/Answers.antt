use Rattle.value_tables.proofs.CsvLemmas.{none_left}
use Rattle.value_tables.proofs.value_rows.written_out.Goals as goal

-- nothing failed, and what is left is written out
pub returns-in-Ok : goal.returns-in-Ok
returns-in-Ok g c = (none_left _ c.in_default.not-Some, c.in-Ok.ensures.ok)
