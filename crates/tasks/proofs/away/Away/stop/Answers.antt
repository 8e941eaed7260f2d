use Rattle.std.proofs.Common.{◌∙◌, ap}
use Rattle.xcp_base.specs.Lists.{has_list}
use Rattle.sampler.specs.State.{runs_in}
use Rattle.tasks.specs.Links.{AwayState, runs_of}
use Rattle.channel_ring.specs.declared.order.Order.TheVariants.{Stop}
use Rattle.tasks.proofs.NeedLemmas.{stop-leaves}
use Rattle.tasks.proofs.RunningLemmas.{running-sent}
use Rattle.tasks.proofs.away.Away.stop.Goals as goal

-- the place that the stop took was kept for it
pub invariant_of-self : goal.invariant_of-self
invariant_of-self g c =
    let below = rw c.byte.ensures.value at c.byte.ensures.below in
    let sends = rw c.byte.ensures.value at c.send_reserved.ensures.sends in
    let runs = c.self.invariant.1 c.args.l below ∙ ap (λ (a : AwayState _). runs_of a c.args.l) c.self.view_is ∙ c.requires.runs in (
      c.send_reserved.ensures.ring_stays ∙ c.self.invariant.0,
      running-sent _ _ _ _ (Stop c.args.l) (λ l. runs_in c.self.inside.went.value.sampler l) sends c.self.invariant.1 c.without_list-self-inside.ensures,
      λ is. stop-leaves (has_list c.self.inside.running) (has_list c.without_list-self-inside.result) c.args.l _ _ below runs c.send_reserved.ensures.spent c.without_list-self-inside.ensures (c.self.invariant.2 is),
      c.self.invariant.3,
      c.self.invariant.4,
    )
