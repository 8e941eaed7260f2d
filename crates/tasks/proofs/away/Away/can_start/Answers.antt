use Rattle.std.proofs.Common.{List, ◌∙◌, ap, sym}
use Rattle.xcp_base.specs.Lists.{has_list}
use Rattle.sampler.specs.State.{runs_in}
use Rattle.channel_ring.specs.Orders.{SendState}
use Rattle.tasks.specs.Links.{runs_by}
use Rattle.channel_ring.specs.declared.order.Order.{Order}
use Rattle.tasks.proofs.NeedLemmas.{places-same, test-fits, test-misses}
use Rattle.tasks.proofs.away.Away.can_start.Goals as goal

-- the set that is kept is that of the lists that run, so it needs as many places
pub returns-clause-yes : goal.returns-clause-yes
returns-clause-yes g c is =
    let same = places-same (has_list c.self.inside.running) (λ l. runs_by c.room.new.self.sent (runs_in c.self.inside.went.value.sampler l) l) (has_list c.args.lists)
    (λ l below. c.self.invariant.1 l below ∙ ap (λ (os : List Order). runs_by os (runs_in c.self.inside.went.value.sampler l) l) (sym (ap (λ (s : SendState). s.sent) c.room.ensures.looked.rest))) in
    record {
      takes_orders = c.if-self.false;
      places = test-fits _ _ _ _ (c.places_for-needed.ensures ∙ same) c.room.ensures.value is;
    }

pub returns-clause-no : goal.returns-clause-no
returns-clause-no g c is fits =
    let same = places-same (has_list c.self.inside.running) (λ l. runs_by c.room.new.self.sent (runs_in c.self.inside.went.value.sampler l) l) (has_list c.args.lists)
    (λ l below. c.self.invariant.1 l below ∙ ap (λ (os : List Order). runs_by os (runs_in c.self.inside.went.value.sampler l) l) (sym (ap (λ (s : SendState). s.sent) c.room.ensures.looked.rest))) in
    test-misses _ _ _ _ (c.places_for-needed.ensures ∙ same) c.room.ensures.value is fits.places
