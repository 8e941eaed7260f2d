-- none of the ODTs so far has the bytes
use Rattle.std.proofs.Common.{◌≡◌, drop}
use Rattle.measured_values.specs.Encodings.{size_of}
use Rattle.value_tables.specs.Sources.{first_of, source_in, source_of}
use Rattle.value_tables.proofs.source.source_of.Given as goal

abbrev pub invariant-loop-k : goal.invariant-loop-k
invariant-loop-k l =
    source_of l.shape l.address (size_of l.data_type)
    ≡ first_of (source_in l.address (size_of l.data_type)) l.k (drop l.k l.shape.odts)
