use Rattle.std.proofs.Common.{◌∙◌, ap, sym, length, [], get_or, ◌<◌, arith, List}
use Rattle.std.proofs.lemmas.List.{get_or-map, length-map}
use Rattle.copy_plan.specs.declared.span.Span.{Span}
use Rattle.copy_plan.specs.Config.{ListPlan, odt}
use Rattle.copy_plan.specs.Inner.Joined.{joined_spans}
use Rattle.copy_plan.specs.Inner.Kept.{plan_view}
use Rattle.copy_plan.specs.Inner.Stretched.{SpansState}
use Rattle.copy_plan.proofs.plan.CopyPlan.copies_of.Goals as goal

-- the spans that are kept of an ODT are those of its entries
pub returns-clause-spans : goal.returns-clause-spans
returns-clause-spans c =
    let plan : ListPlan = plan_view c.self.inside in
    let odts : List SpansState = c.self.inside.odts.items in
    let k = c.args.k in
    let spans : SpansState → List Span = λ s. s.spans in
    let there : k < length plan.odts = rw (← c.self.view_is) at c.requires in
    let kept : k < length odts = omega (arith, there, length-map odts spans, ap length c.self.invariant.odts, length-map plan.odts joined_spans) in
    ap spans c.index.ensures
    ∙ sym (get_or-map spans odts k c.index.result.now [] kept)
    ∙ ap (λ xs. get_or xs k []) c.self.invariant.odts
    ∙ get_or-map joined_spans plan.odts k [] [] there
    ∙ ap (λ (p : ListPlan). joined_spans (odt p k)) c.self.view_is
