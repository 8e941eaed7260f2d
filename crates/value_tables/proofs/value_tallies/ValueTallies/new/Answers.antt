use Rattle.std.proofs.Common.{arith}
use Rattle.value_tables.specs.Lists.{plans_of}
use Rattle.value_tables.proofs.TallyLemmas.{none_tallied}
use Rattle.value_tables.proofs.value_tallies.ValueTallies.new.Goals as goal

-- a tally of no values for each column, and no sample came yet
pub invariant_of-result : goal.invariant_of-result
invariant_of-result c =
    let plans = plans_of c.in_ok-lists.lists.items in
    rw c.new.ensures (
      omega (arith, c.in_ok-tallies.ensures.lists, c.len.ensures, c.args.columns.ok.0),
      rw (← c.deref.ensures.value) c.in_ok-lists.ensures.sources,
      none_tallied plans c.args.columns.items c.in_ok-tallies.tallies.items c.in_ok-tallies.ensures.none,
    )
