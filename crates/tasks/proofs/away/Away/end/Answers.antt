use Rattle.std.proofs.Common.{◌∙◌, refl, true≢false}
use Rattle.sampler.specs.State.{runs_in}
use Rattle.channel_ring.specs.declared.order.Order.TheVariants.{End}
use Rattle.tasks.proofs.RunningLemmas.{running-sent}
use Rattle.tasks.proofs.away.Away.end.Goals as goal

-- no list starts or stops by it, and no order follows it
pub invariant_of-self : goal.invariant_of-self
invariant_of-self g c = (
  c.send_reserved.ensures.ring_stays ∙ c.self.invariant.0,
  running-sent _ _ _ _ End (λ l. runs_in c.self.inside.went.value.sampler l) c.send_reserved.ensures.sends c.self.invariant.1 (λ k h. refl),
  λ is. absurd (true≢false is),
  c.self.invariant.3,
  c.self.invariant.4,
)
