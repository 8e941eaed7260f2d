use Rattle.std.proofs.Common.{◌∙◌, ap, length, take}
use Rattle.std.proofs.Math.Seq.{take-append_seam}
use Rattle.std.proofs.lemmas.Result.{err_from_is_err_and}
use Rattle.std.specs.List.{flat_map}
use Rattle.mdf_groups.proofs.record_form.push_own.Goals as goal
use Rattle.mdf_groups.specs.Records.{own_bytes}

-- what was there stands in front of the values that were written before
pub returns-in_err-extend_from_slice-clause-err : goal.returns-in_err-extend_from_slice-clause-err
returns-in_err-extend_from_slice-clause-err c =
    let old = c.args.out.now.items in
    let values =
    flat_map (own_bytes c.args.sample.now) (take c.loop-value.value-index c.args.own.now) in
    let p = err_from_is_err_and c.from_residual.result c.from_residual.ensures.1 in
    rw p.1
    (ap (take (length old)) (c.in_err-extend_from_slice.ensures.items ∙ c.loop-value.invariant)
    ∙ take-append_seam old values)
