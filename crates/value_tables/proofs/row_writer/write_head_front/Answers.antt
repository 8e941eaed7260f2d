use Rattle.std.proofs.Common.{List, ℕ, subst}
use Rattle.std.specs.Prelude.{codes}
use Rattle.sample_tables.proofs.PrintedLemmas.{with_ok}
use Rattle.value_tables.specs.Fields.{HasFieldMore}
use Rattle.value_tables.specs.ValueRows.{with_unit}
use Rattle.value_tables.proofs.FieldLemmas.{three_put}
use Rattle.value_tables.proofs.row_writer.write_head_front.Goals as goal

-- three names, one after another
pub returns : goal.returns
returns g c =
    let contents = g.W.Write.contents in
    let first = subst (λ (unit : List ℕ). HasFieldMore contents c.args.rows.now c.put_head.new.rows (with_unit (codes "time") unit)) c.time_unit.ensures c.in_ok-put_head.ensures in
    with_ok c.put-2.result _ _ (three_put contents c.args.rows.now c.put_head.new.rows c.put.new.rows c.put-2.new.rows _ _ _ c.requires first c.in_ok-put.ensures) c.put-2.ensures
