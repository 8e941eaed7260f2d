use Rattle.std.proofs.Common.{◌≢◌, subst, sym}
use Rattle.std.specs.Io.KnownBytes.{Appends}
use Rattle.csv.specs.Writing.{row_text, text_written}
use Rattle.csv.specs.declared.writer.QuoteStyle.TheVariants as style
use Rattle.csv.specs.declared.writer.WriterBuilder.{WriterBuilder}
use Rattle.sample_tables.specs.Rows.{column_names}
use Rattle.sample_tables.proofs.PrintedLemmas.{with_ok}
use Rattle.sample_tables.proofs.row.write_names.Goals as goal

-- the names stand behind a whole row, and so they begin one
pub returns-clause-text : goal.returns-clause-text
returns-clause-text g c =
    with_ok c.write_fields.result _ _
    (λ h.
    subst (λ (s : WriterBuilder). Appends (text_written g.W.Write.contents c.args.rows.now) (text_written g.W.Write.contents c.write_fields.new.self) (row_text s column_names)) c.requires.setup
    (h c.requires.fields c.requires.blank (subst (λ (s : WriterBuilder). s.style ≢ style.NonNumeric) (sym c.requires.setup) (λ e. cc (e)))))
    c.write_fields.ensures.bytes
