-- the bytes of the entries so far
use Rattle.std.proofs.Common.{◌≡◌, ◌++◌}
use Rattle.std.specs.List.{flat_map, range_with_len}
use Rattle.value_tables.specs.Places.{entry_bytes}
use Rattle.value_tables.proofs.places.push_odt.Given as goal

abbrev pub invariant-loop-e : goal.invariant-loop-e
invariant-loop-e l = l.out.items ≡ l.fn.out.items ++ flat_map (entry_bytes l.sample.sample l.k) (range_with_len 0 l.e)
