-- the bytes of the ODTs so far
use Rattle.std.proofs.Common.{◌≡◌, ◌++◌}
use Rattle.std.specs.List.{flat_map, range_with_len}
use Rattle.value_tables.specs.Places.{listed_in}
use Rattle.value_tables.proofs.places.push_entries.Given as goal

abbrev pub invariant-loop-k : goal.invariant-loop-k
invariant-loop-k l = l.out.items ≡ l.fn.out.items ++ flat_map (listed_in l.sample.plan l.sample.sample) (range_with_len 0 l.k)
