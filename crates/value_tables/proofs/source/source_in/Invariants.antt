-- none of the entries so far has the bytes
use Rattle.std.proofs.Common.{◌≡◌, drop}
use Rattle.copy_plan.specs.Config.{odt}
use Rattle.measured_values.specs.Encodings.{size_of}
use Rattle.value_tables.specs.Sources.{first_of, source_at, source_in}
use Rattle.value_tables.proofs.source.source_in.Given as goal

abbrev pub invariant-loop-e : goal.invariant-loop-e
invariant-loop-e l =
    let es = odt l.shape l.k in
    source_in l.address (size_of l.data_type) l.k es
    ≡ first_of (source_at l.address (size_of l.data_type) l.k) l.e (drop l.e es)
