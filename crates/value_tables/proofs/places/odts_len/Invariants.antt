-- the bytes of the ODTs so far
use Rattle.std.proofs.Common.{◌≡◌, take}
use Rattle.value_tables.specs.Places.{odts_len}
use Rattle.value_tables.proofs.places.odts_len.Given as goal

abbrev pub invariant-loop-k : goal.invariant-loop-k
invariant-loop-k l = l.bytes ≡ odts_len (take l.k l.shape.odts)
