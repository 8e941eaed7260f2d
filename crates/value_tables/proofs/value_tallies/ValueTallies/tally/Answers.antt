use Rattle.std.proofs.Common.{◌∙◌, ap, slice_get}
use Rattle.std.specs.Prelude.{reverse}
use Rattle.value_tables.specs.Lists.{plans_of}
use Rattle.value_tables.proofs.TallyLemmas.{tally_there}
use Rattle.value_tables.proofs.value_tallies.ValueTallies.tally.Goals as goal

-- it is that of the column
pub returns-clause-value : goal.returns-clause-value
returns-clause-value c =
    let at = c.self.inside in
    rw (← c.self.view_is) (tally_there (plans_of at.lists.items) at.columns.items (reverse at.log.samples) at.tallies.items c.args.c c.tally_at.result
    (c.tally_at.ensures ∙ ap (λ ts. slice_get ts c.args.c) c.deref.ensures.value) c.self.invariant.2)
