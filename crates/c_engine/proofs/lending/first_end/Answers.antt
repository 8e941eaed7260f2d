use Rattle.std.proofs.Common.{◌∙◌, ◌<◌, ◌∷◌, ap, arith, length, sym}
use Rattle.std.proofs.lemmas.Grind.{common_steps}
use Rattle.c_engine.proofs.LendingLemmas.{first-goes}
use Rattle.c_engine.proofs.lending.first_end.Goals as goal

-- it is the first one's, whose way said what it says still
pub returns-clause-first : goal.returns-clause-first
returns-clause-first g c =
    let some : 0 < length c.args.ways.now.items = grind (arith, common_steps) in (
      c.index_mut.result.now,
      first-goes _ _ c.take.new.self some c.take.ensures.stays c.index_mut.ensures.value ∙ ap (λ xs. c.index_mut.result.now ∷ xs) (sym c.remove.ensures.items),
      c.in_ok-end.ensures.left,
    )
