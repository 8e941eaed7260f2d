-- the bytes of the entries so far
use Rattle.std.proofs.Common.{◌≡◌, take}
use Rattle.copy_plan.specs.Config.{odt}
use Rattle.value_tables.specs.Places.{entries_len}
use Rattle.value_tables.proofs.places.entries_len.Given as goal

abbrev pub invariant-loop-e : goal.invariant-loop-e
invariant-loop-e l = l.bytes ≡ entries_len (take l.e (odt l.shape l.k))
