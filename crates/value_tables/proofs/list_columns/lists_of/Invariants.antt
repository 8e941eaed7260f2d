-- the lists so far, each with its sources
use Rattle.std.proofs.Common.{◌≡◌}
use Rattle.std.specs.Prelude.{All}
use Rattle.value_tables.specs.Lists.{HasSources, plans_of}
use Rattle.value_tables.proofs.list_columns.lists_of.Given as goal

abbrev pub invariant-loop-shape : goal.invariant-loop-shape
invariant-loop-shape l = (plans_of l.lists.items ≡ l.yielded) × All (HasSources l.columns) l.lists.items
