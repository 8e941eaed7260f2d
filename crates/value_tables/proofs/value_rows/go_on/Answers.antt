use Rattle.value_tables.proofs.CsvLemmas.{succeeded}
use Rattle.value_tables.proofs.value_rows.go_on.Goals as goal

-- nothing failed, so the row was written, and the writer is behind it
pub returns-clause-text : goal.returns-clause-text
returns-clause-text g c = λ none.
    rw c.in-Some.is (succeeded c.write_row.result _ (c.failure_of.ensures.0 none) c.write_row.ensures.text)

pub returns-clause-between : goal.returns-clause-between
returns-clause-between g c = λ none.
    succeeded c.write_row.result _ (c.failure_of.ensures.0 none) c.write_row.ensures.between
