use Rattle.std.proofs.Common.{◌≡◌, ◌≤◌}
use Rattle.xcp_base.specs.Lists.{has_list}
use Rattle.xcp_base.specs.Counts.{how_many}
use Rattle.xcp_base.proofs.list_set.ListSet.len.Given as goal

abbrev pub invariant-loop-l : goal.invariant-loop-l
invariant-loop-l l = record {
  value : l.found ≡ how_many l.l (has_list l.self);
  few : l.found ≤ l.l;
}
