use Rattle.std.proofs.Common.{[], sym, subst}
use Rattle.sample_tables.specs.Tallies.{AreTallies}
use Rattle.sample_tables.proofs.TallyLemmas.{tallies-none}
use Rattle.sample_tables.proofs.summary.no_tallies.Goals as goal

-- each list has no sample
pub returns-clause-tallies : goal.returns-clause-tallies
returns-clause-tallies c =
    subst (λ ts. AreTallies ts []) (sym c.loop.invariant.items) (tallies-none c.loop.counter)
