use Rattle.std.proofs.Common.{◌∙◌, ap, refl, subst, sym}
use Rattle.sampler.specs.State.{runs_in}
use Rattle.tasks.specs.Links.{AwayState, HasPlacesFor}
use Rattle.channel_ring.specs.declared.order.Order.TheVariants.{Start}
use Rattle.tasks.proofs.RunningLemmas.{others-checked, places-kept, running-sent}
use Rattle.tasks.proofs.away.Away.start.Goals as goal

-- the check counted the stop of this list too
pub invariant_of-self : goal.invariant_of-self
invariant_of-self g c =
    let fits = subst (λ (a : AwayState _). HasPlacesFor a c.requires.checked.0) (sym c.self.view_is) c.requires.checked.2 in
    let below = rw c.byte.ensures.value at c.byte.ensures.below in
    let sends = rw c.byte.ensures.value at c.send_reserved.ensures.sends in (
      c.send_reserved.ensures.ring_stays ∙ c.self.invariant.0,
      running-sent _ _ _ _ (Start c.args.l) (λ l. runs_in c.self.inside.went.value.sampler l) sends c.self.invariant.1 (λ k h. c.with_list-self-inside.ensures k),
      λ is. places-kept _ c.self.inside.running c.with_list-self-inside.result c.args.l _ below c.requires.checked.0 c.requires.checked.1 fits c.send_reserved.ensures.spent c.self.invariant.1 c.with_list-self-inside.ensures,
      c.self.invariant.3,
      c.self.invariant.4,
    )

pub returns-clause-others : goal.returns-clause-others
returns-clause-others g c lists there fits =
    let below = rw c.byte.ensures.value at c.byte.ensures.below in
    others-checked _ _ c.args.l below lists there (subst (λ (a : AwayState _). HasPlacesFor a lists) (sym c.self.view_is) fits) (record {
      sampler = refl;
      went = refl;
      out = refl;
      here = refl;
      orders = rw c.byte.ensures.value at c.send_reserved.ensures.sends;
      spent = c.send_reserved.ensures.spent;
      ended = ap (λ (a : AwayState _). a.ended) c.self.view_is ∙ c.requires.checked.2.takes_orders;
    })
