use Rattle.std.proofs.Common.{Bool, subst, sym, ◌∙◌}
use Rattle.xcp_base.specs.Lists.{has_list}
use Rattle.slave_outbox.specs.Deeds.{Started}
use Rattle.channel_ring.specs.declared.order.Order.TheVariants.{Start}
use Rattle.slave_channels.specs.Ordering.{OrdersAll, from_on, one_if}
use Rattle.slave_channels.proofs.OrderingLemmas.{can-same, from-here, from-other, from-without, no-order, one-start}
use Rattle.slave_channels.proofs.channel.Channel.start_one.Goals as goal

pub start-requires : goal.start-requires
start-requires c =
    let set = has_list c.args.lists in
    record { checked = (from_on c.args.l set, from-here set c.args.l (sym c.has_list.ensures ∙ c.if-has_list.true), c.requires.checked) }

-- one start was ordered, or none
pub returns-then-has_list-clause-orders : goal.returns-then-has_list-clause-orders
returns-then-has_list-clause-orders c =
    subst (λ (b : Bool). OrdersAll c.args.self.now c.start.new.self (one_if b (Start c.args.l)) (one_if b (Started c.args.l))) (sym c.if-has_list.true ∙ c.has_list.ensures)
    (one-start _ _ c.args.l _ c.requires.checked c.start.ensures.orders)

pub returns-else-has_list-clause-orders : goal.returns-else-has_list-clause-orders
returns-else-has_list-clause-orders c =
    subst (λ (b : Bool). OrdersAll c.args.self.now c.args.self.now (one_if b (Start c.args.l)) (one_if b (Started c.args.l))) (sym c.if-has_list.false ∙ c.has_list.ensures)
    (no-order c.args.self.now)

-- what can be started behind this list
pub returns-then-has_list-clause-behind : goal.returns-then-has_list-clause-behind
returns-then-has_list-clause-behind c =
    let set = has_list c.args.lists in
    let here = from-here set c.args.l (sym c.has_list.ensures ∙ c.if-has_list.true) in
    can-same _ _ _ (from-without set c.args.l) (c.start.ensures.others _ here c.requires.checked)

pub returns-else-has_list-clause-behind : goal.returns-else-has_list-clause-behind
returns-else-has_list-clause-behind c =
    let set = has_list c.args.lists in
    can-same _ _ _ (λ k. from-other set c.args.l k (sym c.has_list.ensures ∙ c.if-has_list.false)) c.requires.checked
