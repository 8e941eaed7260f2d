use Rattle.std.proofs.Common.{string_bytes, subst}
use Rattle.sample_tables.proofs.PrintedLemmas.{with_ok}
use Rattle.value_tables.specs.Fields.{HasFieldMore}
use Rattle.value_tables.proofs.FieldLemmas.{three_put}
use Rattle.value_tables.proofs.row_writer.write_front.Goals as goal

-- three fields, one after another
pub returns : goal.returns
returns g c =
    let contents = g.W.Write.contents in
    with_ok c.put-3.result _ _
    (λ third. (
      string_bytes c.write_time.new.text,
      c.in_ok-write_time.ensures,
      three_put contents c.args.rows.now c.put.new.rows c.put-2.new.rows c.put-3.new.rows _ _ _ c.requires
          (subst (λ f. HasFieldMore contents c.args.rows.now c.put.new.rows f) c.as_bytes.ensures.value c.in_ok-put.ensures)
          (subst (λ f. HasFieldMore contents c.put.new.rows c.put-2.new.rows f) c.decimal.ensures c.in_ok-put-2.ensures)
          (subst (λ f. HasFieldMore contents c.put-2.new.rows c.put-3.new.rows f) c.one_or_zero.ensures third),
    ))
    c.put-3.ensures
