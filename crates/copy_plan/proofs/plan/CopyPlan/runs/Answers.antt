use Rattle.std.proofs.Common.{◌<◌, length, [], arith, ap, sym, ◌∙◌, Some}
use Rattle.std.specs.Prelude.{option_map}
use Rattle.std.proofs.lemmas.Option.{slice_get-get_or}
use Rattle.copy_plan.specs.Config.{odt}
use Rattle.copy_plan.specs.Copies.{copies_needed}
use Rattle.copy_plan.proofs.CopyLemmas.{length-offsets}
use Rattle.copy_plan.proofs.JoinedLemmas.{length-joined_spans}
use Rattle.copy_plan.proofs.plan.CopyPlan.runs.Goals as goal

-- each ODT of a plan has an entry, and as many spans as it needs
pub returns : goal.returns
returns c =
    let here : c.args.k < length c.args.self.now.odts = omega (arith, c.if-k-odts.false, c.odts.ensures.value) in
    let many = ap length c.offsets.ensures ∙ length-offsets c.args.self.now.channel c.args.self.now.segments c.copies_of.result.now c.copies_of.ensures.placed in
    ap Some (many ∙ ap length c.copies_of.ensures.spans ∙ length-joined_spans (odt c.args.self.now c.args.k) (c.odts.ensures.plan.entries c.args.k here))
    ∙ sym (ap (option_map copies_needed) (slice_get-get_or c.args.self.now.odts c.args.k [] here))
