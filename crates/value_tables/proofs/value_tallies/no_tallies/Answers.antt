use Rattle.std.proofs.Common.{◌∷◌, [], arith, length-append, refl, rules}
use Rattle.std.proofs.lemmas.List.Elements.{All-push}
use Rattle.measured_values.specs.Tallies.{IsTally}
use Rattle.value_tables.proofs.value_tallies.no_tallies.Goals as goal

-- there are none yet
pub loop-init : goal.loop-init
loop-init c = rw c.in_ok-tallies.ensures.items (refl, λ k d below. absurd (omega (arith, below)))

-- one more, of no values
pub loop-preserved : goal.loop-preserved
loop-preserved c =
    let none : IsTally c.new.result [] = search rules in
    let all = All-push (λ t. IsTally t []) c.loop.tallies.items c.new.result c.loop.invariant.1 none in
    rw c.in_ok-push.ensures.items
    (omega (arith, length-append c.loop.tallies.items (c.new.result ∷ [])), all)
