use Rattle.value_tables.proofs.FieldLemmas.{one_more, with_three}
use Rattle.value_tables.proofs.fields.put_field.Goals as goal

-- it stands behind a comma, if it isn't the first
pub returns : goal.returns
returns g c =
    with_three c.write_field.result _ _ _ _ (one_more g.W.Write.contents c.args.rows.now c.write_field.new.self c.args.field.now)
    c.write_field.ensures.text c.write_field.ensures.same c.write_field.ensures.count
