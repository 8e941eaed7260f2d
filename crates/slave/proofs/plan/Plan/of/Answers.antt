use Rattle.std.proofs.Common.{◌++◌, ◌∷◌, [], map, sym, ap, ◌∙◌}
use Rattle.daq_store.specs.Calls.{numbers_below}
use Rattle.daq_store.specs.Standing.{conf_of}
use Rattle.session.specs.SetUps.{set_up_of}
use Rattle.slave.proofs.PlanLemmas.{map-next}
use Rattle.slave.proofs.plan.Plan.of.Goals as goal

-- the set-up of one more list is held
pub loop-l-preserved : goal.loop-l-preserved
loop-l-preserved c =
    c.in_ok-push.ensures.items ∙ ap (λ xs. xs ++ c.in_ok-of.field-0 ∷ []) c.loop-l.invariant
    ∙ ap (λ x. map (λ k. set_up_of (conf_of c.args.store.now k)) (numbers_below c.loop-l.l) ++ x ∷ []) (c.in_ok-of.ensures.value ∙ ap set_up_of c.in-Some.ensures.value)
    ∙ sym (map-next (λ k. set_up_of (conf_of c.args.store.now k)) c.loop-l.l)
