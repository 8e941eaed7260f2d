use Rattle.std.proofs.Common.{sym, ◌∙◌}
use Rattle.daq_engine.proofs.PlanLists.{keep_by_value}
use Rattle.engine_tests.proofs.by_value.sampler_by_value.Goals as goal

-- a ring takes at least what finds room in a value
pub sampler_over-requires-clause-keep : goal.sampler_over-requires-clause-keep
sampler_over-requires-clause-keep g c =
    keep_by_value (g.S.SendEnd.limit c.args.end) c.args.store.now c.args.c c.in-Ok.plans.items (g.met.S.SendEnd.least c.args.end) (sym c.is_by_value.ensures ∙ c.if-not-is_by_value.false)
    c.in-Ok.ensures.value c.in-Ok.ensures.plan c.in-Ok.ensures.few
