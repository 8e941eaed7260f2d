-- so many tallies of no values
use Rattle.std.proofs.Common.{◌≡◌, [], length}
use Rattle.std.specs.Prelude.{All}
use Rattle.measured_values.specs.Tallies.{IsTally}
use Rattle.value_tables.proofs.value_tallies.no_tallies.Given as goal

abbrev pub invariant-loop : goal.invariant-loop
invariant-loop l = (length l.tallies.items ≡ l.counter) × All (λ t. IsTally t []) l.tallies.items
