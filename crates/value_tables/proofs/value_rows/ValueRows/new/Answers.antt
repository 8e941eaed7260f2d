use Rattle.std.proofs.Common.{ap, arith, length}
use Rattle.value_tables.specs.Lists.{plans_of}
use Rattle.value_tables.proofs.CsvLemmas.{heads_alone, succeeded}
use Rattle.value_tables.proofs.value_rows.ValueRows.new.Goals as goal

-- the names of the columns are written, if nothing failed
pub invariant_of-result : goal.invariant_of-result
invariant_of-result g c =
    let plans = plans_of c.in_ok-lists.lists.items in
    let columns = c.args.columns.items in
    rw (c.of-start.ensures, c.new-4.ensures) (
      c.in_ok-spots.ensures plans (omega (arith, ap length c.in_ok-lists.ensures.plans, c.len.ensures, c.args.shapes.ok.0)),
      rw (← c.deref.ensures.value) c.in_ok-lists.ensures.sources,
      λ none.
          let went = c.failure_of-failed.ensures.0 none in
          let text = succeeded c.write_heads.result _ went c.write_heads.ensures.text in
          let between = succeeded c.write_heads.result _ went c.write_heads.ensures.between in
          rw c.write_heads.ensures.tick (heads_alone g.W.Write.contents c.args.tick columns plans c.args.out c.from_writer.result c.write_heads.new.self.rows c.from_writer.ensures.wtr c.from_writer.ensures.empty (rw c.deref-2.ensures.value at text) between),
    )
