use Rattle.std.proofs.Common.{◌≡◌, ◌<◌, ◌∙◌, arith, get_or, length, sym}
use Rattle.std.specs.Prelude.{Some, slice_get}
use Rattle.std.proofs.lemmas.Option.{slice_get-get_or}
use Rattle.copy_plan.specs.Config.{OdtEntry, odt}
use Rattle.measured_values.specs.Encodings.{size_of}
use Rattle.value_tables.specs.Sources.{source_at}
use Rattle.value_tables.proofs.SourceLemmas.{first_here, first_later}
use Rattle.value_tables.proofs.source.source_in.Goals as goal

-- this entry is the first that has the bytes
pub returns-then-is_some : goal.returns-then-is_some
returns-then-is_some c =
    let es = odt c.args.shape.now c.args.k in
    let none : OdtEntry = (0, 0) in
    let within : c.loop-e.e < length es = omega (arith, c.loop-e-test.true, c.entries-e-end.ensures) in
    let at : slice_get es c.loop-e.e ≡ Some (get_or es c.loop-e.e none) = slice_get-get_or es c.loop-e.e none within in
    sym (c.loop-e.invariant ∙ first_here (source_at c.args.address (size_of c.args.data_type) c.args.k) c.loop-e.e _ es _ at (c.source_at-source.ensures _ at) (sym c.is_some.ensures ∙ c.if-is_some.true))

-- it isn't
pub loop-e-preserved : goal.loop-e-preserved
loop-e-preserved c =
    let es = odt c.args.shape.now c.args.k in
    let none : OdtEntry = (0, 0) in
    let within : c.loop-e.e < length es = omega (arith, c.loop-e-test.true, c.entries-e-end.ensures) in
    let at : slice_get es c.loop-e.e ≡ Some (get_or es c.loop-e.e none) = slice_get-get_or es c.loop-e.e none within in
    c.loop-e.invariant ∙ first_later (source_at c.args.address (size_of c.args.data_type) c.args.k) c.loop-e.e _ es _ at (c.source_at-source.ensures _ at) (sym c.is_some.ensures ∙ c.if-is_some.false)
