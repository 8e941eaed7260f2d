use Rattle.std.proofs.Common.{sym, subst}
use Rattle.daq_engine.proofs.PlanLists.{of_channel, rising}
use Rattle.sampler.specs.State.{ArePlansOf}
use Rattle.daq_engine.proofs.opening.sampler_over.Goals as goal

-- each plan is of a list that is ready on this channel
pub over-requires-clause-plans_of : goal.over-requires-clause-plans_of
over-requires-clause-plans_of g c =
    rw c.byte.ensures.value
    (subst (λ n. ArePlansOf c.args.c n c.args.plans.items) (sym c.segments.ensures.value)
    (of_channel c.args.store.now c.args.c c.args.plans.items c.requires.of_channel c.requires.plan))

pub over-requires-clause-rising : goal.over-requires-clause-rising
over-requires-clause-rising g c = rising c.args.store.now c.args.c c.args.plans.items c.requires.of_channel
