use Rattle.xcp_base.specs.Lists.{has_list}
use Rattle.tasks.specs.Links.{CanStart}
use Rattle.slave_channels.specs.Ordering.{OrdersAll, from_on, starts_noted, starts_sent}
use Rattle.slave_channels.proofs.channel.Channel.start_checked.Given as goal

-- the starts so far were ordered, and those behind them find places
abbrev pub invariant-loop-l : goal.invariant-loop-l
invariant-loop-l l = record {
  orders : OrdersAll l.fn.self l.self (starts_sent (has_list l.lists) l.l) (starts_noted (has_list l.lists) l.l);
  behind : CanStart l.self.link.newer (from_on l.l (has_list l.lists));
}
