use Rattle.std.proofs.Common.{◌≡◌, map}
use Rattle.engine_tests.proofs.orders_between.order_all.Given as goal

-- the transmitter keeps its rings, and the send end of the orders its own
abbrev pub invariant-loop : goal.invariant-loop
invariant-loop g l = record {
  rings : map g.T.TakeEnd.ring l.transmitter.ends.items ≡ map g.T.TakeEnd.ring l.fn.transmitter.ends.items;
  control : l.send.ring ≡ l.fn.send.ring;
}
