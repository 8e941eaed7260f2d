use Rattle.std.proofs.Common.{ap, subst, sym}
use Rattle.sampler.specs.State.{SamplerEndState, SamplerState}
use Rattle.hand_over.specs.Ways.{GivenState}
use Rattle.c_engine.specs.Samplers.{IsLeftOf}
use Rattle.c_engine.proofs.WayLemmas.{left-end}
use Rattle.c_engine.proofs.lent.Lent.finish.Goals as goal

-- what is left of the sampler inside is left of the one that was handed out
pub give-requires : goal.give-requires
give-requires g c = left-end g.R.Send.SendEnd g.R.Send.End.RingEnd _ _ _ c.self.invariant (record {
  channel = c.in-Some.ensures.channel;
  plans = c.in-Some.ensures.plans;
  counts = c.in-Some.ensures.counts;
  capacity = c.in-Some.ensures.capacity;
  sent = c.in-Some.ensures.sent;
  same_ring = c.in-Some.ensures.ring;
  stands = c.in-Some.ensures.stands;
})

-- and it is what was given back
pub returns-in-Some-clause-ok : goal.returns-in-Some-clause-ok
returns-in-Some-clause-ok g c =
    subst (λ (e : SamplerEndState _). IsLeftOf g.R.Send.SendEnd g.R.Send.End.RingEnd c.args.self e) (sym (ap (λ (g : GivenState _ _). g.left) c.give.ensures))
    (subst (λ (s : SamplerState _). IsLeftOf g.R.Send.SendEnd g.R.Send.End.RingEnd s c.in-Some.end) c.self.view_is (record {
      channel = c.in-Some.ensures.channel;
      plans = c.in-Some.ensures.plans;
      counts = c.in-Some.ensures.counts;
      capacity = c.in-Some.ensures.capacity;
      sent = c.in-Some.ensures.sent;
      same_ring = c.in-Some.ensures.ring;
      stands = c.in-Some.ensures.stands;
    }))
