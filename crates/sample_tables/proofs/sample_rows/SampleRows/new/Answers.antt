use Rattle.std.proofs.Common.{arith}
use Rattle.sample_tables.proofs.RowLemmas.{names_alone, went_on}
use Rattle.sample_tables.proofs.sample_rows.SampleRows.new.Goals as goal

-- the names of the columns are written, if nothing failed
pub invariant_of-result : goal.invariant_of-result
invariant_of-result g c =
    rw (c.of-start.ensures, c.new-3.ensures) (
      c.in_ok-spots.ensures c.args.shapes.items (omega (arith, c.len.ensures, c.args.shapes.ok.0)),
      λ ok.
          let went = went_on c.are_named-failed.result ok in
          names_alone g.W.Write.contents c.args.shapes.items c.args.out c.from_writer-rows.result c.are_named-failed.new.rows c.from_writer-rows.ensures.wtr c.from_writer-rows.ensures.empty (c.are_named-failed.ensures.text went) (c.are_named-failed.ensures.between went),
    )
