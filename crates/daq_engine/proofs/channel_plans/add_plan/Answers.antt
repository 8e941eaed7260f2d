use Rattle.std.proofs.Common.{ℕ, ap, length, sym, subst, All, arith}
use Rattle.std.proofs.lemmas.List.{length-map}
use Rattle.std.proofs.lemmas.List.Elements.{All-push}
use Rattle.copy_plan.specs.Config.{IsPlan, ListPlan, written_entries}
use Rattle.daq_store.specs.Configuration.{channel_of}
use Rattle.daq_engine.specs.Openings.{HasFewOdts}
use Rattle.daq_engine.proofs.channel_plans.add_plan.Goals as goal

-- the plan that is added is one
pub returns-clause-plan : goal.returns-clause-plan
returns-clause-plan c = λ all.
    subst (All IsPlan) (sym c.in_ok-push.ensures.items) (All-push IsPlan c.args.plans.now.items c.in-Ok.plan all c.in-Ok.ensures.plan)

-- and has as few ODTs as the store admits
pub returns-clause-few : goal.returns-clause-few
returns-clause-few c = λ all.
    let most : ℕ = c.args.store.now.profile.most_odts in
    let conf = c.in-Some.conf.now in
    let few : HasFewOdts most c.in-Ok.plan =
    omega (arith, ap (λ (p : ListPlan). length p.odts) c.in-Ok.ensures.value, length-map conf.odts (written_entries (channel_of conf.mode) c.segments.result.now), c.in-Some.ensures.few) in
    subst (All (HasFewOdts most)) (sym c.in_ok-push.ensures.items) (All-push (HasFewOdts most) c.args.plans.now.items c.in-Ok.plan all few)
