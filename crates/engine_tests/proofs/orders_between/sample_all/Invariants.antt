use Rattle.std.proofs.Common.{◌≡◌}
use Rattle.engine_tests.proofs.orders_between.sample_all.Given as goal

-- the sampler is still that of its ring, and so is the take end of the orders
abbrev pub invariant-loop-number : goal.invariant-loop-number
invariant-loop-number g l = record {
  ring : g.S.SendEnd.ring l.sampler.end ≡ g.S.SendEnd.ring l.fn.sampler.end;
  control : l.ctl.ring ≡ l.fn.ctl.ring;
}
