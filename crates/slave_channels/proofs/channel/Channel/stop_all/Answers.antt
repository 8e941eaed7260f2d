use Rattle.tasks.specs.Links.{is_running}
use Rattle.slave_channels.specs.Ordering.{OrdersAll, one_if, stops_noted, stops_sent}
use Rattle.slave_outbox.specs.Deeds.{Stopped}
use Rattle.channel_ring.specs.declared.order.Order.TheVariants.{Stop}
use Rattle.std.proofs.Common.{rules, ◌≡◌, ◌&&◌, ℕ, ◌<◌, ap, sym, subst, ◌∙◌, arith}
use Rattle.std.proofs.lemmas.Bool.{and_parts}
use Rattle.xcp_base.specs.Lists.{has_list}
use Rattle.xcp_base.specs.declared.limits.TheConstants.{MAX_LISTS}
use Rattle.slave_channels.proofs.OrderingLemmas.{orders-more, orders-same, stops_noted-next, stops_noted-same, stops_sent-next, stops_sent-same}
use Rattle.slave_channels.proofs.channel.Channel.stop_all.Goals as goal

-- the lists to be stopped run
pub loop-l-init : goal.loop-l-init
loop-l-init c = record {
  orders = search rules;
  behind = λ k from below one.
      let both = and_parts (has_list c.args.lists k) (has_list c.running.result k) (sym (c.intersection-stopped.ensures k) ∙ one) in
      sym (c.running.ensures k below) ∙ both.1;
}

pub loop-l-preserved : goal.loop-l-preserved
loop-l-preserved c =
    let set = has_list c.intersection-stopped.result in
    record {
      orders =
          orders-same _ _ _ _ _ _ (stops_sent-next set c.loop-l.l) (stops_noted-next set c.loop-l.l)
          (orders-more _ _ _ _ _ _ _ c.loop-l.invariant.orders
          (subst (λ b. OrdersAll c.loop-l.self c.stop_one.new.self (one_if b (Stop c.loop-l.l)) (one_if b (Stopped c.loop-l.l))) (rw c.at-list.ensures at c.has_list.ensures) (rw c.at-list.ensures at c.stop_one.ensures.orders)));
      behind = λ k from below one. c.stop_one.ensures.others k (λ e. omega (arith, e, from, c.at-list.ensures)) ∙ c.loop-l.invariant.behind k (omega (arith, from)) below one;
    }

pub returns : goal.returns
returns c =
    let wanted = λ (k : ℕ). has_list c.args.lists k && is_running c.args.self.now.link.newer k in
    let same : (k : ℕ) → k < MAX_LISTS → has_list c.intersection-stopped.result k ≡ wanted k
    = λ k below. c.intersection-stopped.ensures k ∙ ap (λ b. has_list c.args.lists k && b) (c.running.ensures k below) in
    let all : c.loop-l.l ≡ MAX_LISTS = omega (arith, c.loop-l-test.false) in
    record {
      orders =
          orders-same _ _ _ _ _ _ (ap (stops_sent (has_list c.intersection-stopped.result)) all ∙ stops_sent-same MAX_LISTS (has_list c.intersection-stopped.result) wanted same)
          (ap (stops_noted (has_list c.intersection-stopped.result)) all ∙ stops_noted-same MAX_LISTS (has_list c.intersection-stopped.result) wanted same) c.loop-l.invariant.orders;
    }
