-- the sources of the columns so far
use Rattle.std.proofs.Common.{◌≡◌, map, take}
use Rattle.value_tables.specs.Values.{source_for}
use Rattle.value_tables.proofs.list_columns.sources_for.Given as goal

abbrev pub invariant-loop-c : goal.invariant-loop-c
invariant-loop-c l = l.sources.items ≡ map (source_for l.shape) (take l.c l.columns)
