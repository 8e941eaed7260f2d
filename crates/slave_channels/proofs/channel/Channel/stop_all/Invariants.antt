use Rattle.std.proofs.Common.{◌≡◌, ℕ, ◌≤◌, ◌<◌, true}
use Rattle.xcp_base.specs.Lists.{has_list}
use Rattle.xcp_base.specs.declared.limits.TheConstants.{MAX_LISTS}
use Rattle.tasks.specs.Links.{is_running}
use Rattle.slave_channels.specs.Ordering.{OrdersAll, stops_noted, stops_sent}
use Rattle.slave_channels.proofs.channel.Channel.stop_all.Given as goal

-- the stops so far were ordered, and those of the lists behind them still run
abbrev pub invariant-loop-l : goal.invariant-loop-l
invariant-loop-l l = record {
  orders : OrdersAll l.fn.self l.self (stops_sent (has_list l.stopped) l.l) (stops_noted (has_list l.stopped) l.l);
  behind : (k : ℕ) → l.l ≤ k → k < MAX_LISTS → has_list l.stopped k ≡ true → is_running l.self.link.newer k ≡ true;
}
