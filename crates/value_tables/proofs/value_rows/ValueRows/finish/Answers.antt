use Rattle.std.proofs.KnownBytes.{Appends-kept}
use Rattle.std.proofs.lemmas.Result.{IfOk-weaker}
use Rattle.value_tables.proofs.value_rows.ValueRows.finish.Goals as goal

-- all rows were written, and what is left of them is written out
pub returns : goal.returns
returns g c =
    rw (← c.self.view_is) (IfOk-weaker c.written_out.result _ _
    (λ out back.
    let has = c.self.invariant.2 back.0 in
    (has.text, has.is, Appends-kept _ _ _ _ has.written back.1))
    c.written_out.ensures)
