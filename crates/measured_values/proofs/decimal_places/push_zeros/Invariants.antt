use Rattle.std.proofs.Common.{◌≡◌, ◌++◌, replicate, string_bytes}
use Rattle.measured_values.proofs.decimal_places.push_zeros.Given as goal

abbrev pub invariant-loop-zero : goal.invariant-loop-zero
invariant-loop-zero l =
    string_bytes l.out ≡ string_bytes l.initial.out ++ replicate l._zero 48
