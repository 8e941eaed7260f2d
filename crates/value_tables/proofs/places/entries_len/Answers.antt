use Rattle.std.proofs.Common.{◌≡◌, ◌+◌, ◌∙◌, ap, sym}
use Rattle.std.specs.Prelude.{Some, slice_get}
use Rattle.copy_plan.specs.Config.{OdtEntry, odt}
use Rattle.value_tables.proofs.PlaceLemmas.{entries_more}
use Rattle.value_tables.proofs.places.entries_len.Goals as goal

-- the bytes of one entry more
pub loop-e-preserved : goal.loop-e-preserved
loop-e-preserved c =
    let es = odt c.args.shape.now c.args.k in
    let entry : OdtEntry = (c.in-Some.field-0-0, c.in-Some.size) in
    let at : slice_get es c.loop-e.e ≡ Some entry = sym c.entry.ensures ∙ c.in-Some.is in
    ap (λ n. n + c.in-Some.size) c.loop-e.invariant ∙ sym (entries_more es c.loop-e.e entry at)
