use Rattle.std.proofs.Common.{◌∙◌, ap, subst, sym}
use Rattle.measured_values.specs.Raws.{raw_in}
use Rattle.mdf_blocks.specs.ValuePlaces.{FindsMasked, IsPlaceOf, IsRun}
use Rattle.mdf_blocks.specs.declared.value_format.ValueFormat.TheVariants.{Unsigned}
use Rattle.mdf_blocks.proofs.FoundLemmas.{float_raw, run_found, whole_found, whole_place}
use Rattle.mdf_blocks.proofs.encoding_places.masked_place.Goals as goal

-- without a mask all bits count
pub returns-in_default-clause-found : goal.returns-in_default-clause-found
returns-in_default-clause-found c =
    let t = c.args.data_type in
    whole_found t c.args.order c.args.mask c.args.at c.place_of-whole.result
    (whole_place t c.args.order c.format_of-format.result c.size-size.result c.args.at
    c.place_of-whole.result c.format_of-format.ensures c.size-size.ensures.value
    c.place_of-whole.ensures)
    (λ n. ap (λ m. raw_in t m n) c.in_default.is)

-- and so they do of a float
pub returns-then-is_float-clause-found : goal.returns-then-is_float-clause-found
returns-then-is_float-clause-found c =
    let t = c.args.data_type in
    whole_found t c.args.order c.args.mask c.args.at c.place_of-whole.result
    (whole_place t c.args.order c.format_of-format.result c.size-size.result c.args.at
    c.place_of-whole.result c.format_of-format.ensures c.size-size.ensures.value
    c.place_of-whole.ensures)
    (λ n. float_raw t c.args.mask n (sym c.is_float.ensures ∙ c.if-is_float.true))

-- else those of the mask
pub returns-clause-found : goal.returns-clause-found
returns-clause-found c =
    let t = c.args.data_type in
    let run = c.in_ok-run.run' in
    subst (λ m. FindsMasked t c.args.order m c.args.at c.place_of.result) (sym c.in-Some.is)
    (run_found t c.args.order c.in-Some.mask c.args.at run c.place_of.result
    (sym c.is_float.ensures ∙ c.if-is_float.false)
    (subst (λ n. IsRun c.in-Some.mask n run) c.size-size.ensures.value c.in_ok-run.ensures)
    (subst (λ n. IsPlaceOf (Unsigned c.args.order) n run c.args.at c.place_of.result)
    c.size-size.ensures.value c.place_of.ensures))
