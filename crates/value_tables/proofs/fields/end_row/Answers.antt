use Rattle.csv.specs.Writing.{has_written}
use Rattle.sample_tables.proofs.PrintedLemmas.{with_ok}
use Rattle.value_tables.proofs.FieldLemmas.{ended}
use Rattle.value_tables.proofs.fields.end_row.Goals as goal

-- what a row of fewer fields might have stays out
pub returns-clause-text : goal.returns-clause-text
returns-clause-text g c before fields has two =
    with_ok c.end_record.result _ _ (ended g.W.Write.contents c.args.rows.now c.end_record.new.self (has_written c.args.rows.now) before fields has two)
    c.end_record.ensures.bytes
