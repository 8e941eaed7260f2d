use Rattle.std.proofs.Common.{◌≡◌, ap, arith}
use Rattle.xcp_base.specs.declared.limits.TheConstants.{MAX_LISTS}
use Rattle.slave_channels.specs.Ordering.{starts_noted, starts_sent}
use Rattle.xcp_base.specs.Lists.{has_list}
use Rattle.slave_channels.proofs.OrderingLemmas.{can-same, from-zero, no-order, orders-more, orders-same, starts_noted-next, starts_sent-next}
use Rattle.slave_channels.proofs.channel.Channel.start_checked.Goals as goal

pub loop-l-init : goal.loop-l-init
loop-l-init c = record {
  orders = no-order _;
  behind = can-same _ _ _ (from-zero (has_list c.args.lists)) c.requires.checked;
}

pub loop-l-preserved : goal.loop-l-preserved
loop-l-preserved c =
    let set = has_list c.args.lists in
    record {
      orders =
          orders-same _ _ _ _ _ _ (starts_sent-next set c.loop-l.l) (starts_noted-next set c.loop-l.l)
          (orders-more _ _ _ _ _ _ _ c.loop-l.invariant.orders (rw c.at.ensures at c.start_one.ensures.orders));
      behind = rw c.at.ensures at c.start_one.ensures.behind;
    }

pub returns : goal.returns
returns c =
    let set = has_list c.args.lists in
    let all : c.loop-l.l ≡ MAX_LISTS = omega (arith, c.loop-l-test.false) in
    record {
      orders = orders-same _ _ _ _ _ _ (ap (starts_sent set) all) (ap (starts_noted set) all) c.loop-l.invariant.orders;
    }
