use Rattle.std.proofs.Common.{ap, sym, set, ◌∙◌}
use Rattle.std.proofs.lemmas.List.Edits.{map_over_more}
use Rattle.captured_samples.specs.Inner.{marked_state}
use Rattle.captured_samples.proofs.list_states.mark_all.Goals as goal

pub loop-at-preserved : goal.loop-at-preserved
loop-at-preserved c =
    ap (set c.loop-at.lists c.loop-at.at) (c.mark.ensures ∙ ap marked_state (sym c.index-lists-at.is))
    ∙ map_over_more marked_state c.args.lists.now c.loop-at.lists c.loop-at.at c.index-lists-at.result c.loop-at-test.true c.loop-at.invariant c.index-lists-at.is
