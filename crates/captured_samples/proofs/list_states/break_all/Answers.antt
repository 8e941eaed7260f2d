use Rattle.std.proofs.Common.{ap, sym, set, ◌∙◌}
use Rattle.std.proofs.lemmas.List.Edits.{map_over_more}
use Rattle.captured_samples.specs.Inner.{broken_state}
use Rattle.captured_samples.proofs.list_states.break_all.Goals as goal

pub loop-i-preserved : goal.loop-i-preserved
loop-i-preserved c =
    ap (set c.loop-i.lists c.loop-i.i) (c.break_off.ensures ∙ ap broken_state (sym c.index-lists-i.is))
    ∙ map_over_more broken_state c.args.lists.now c.loop-i.lists c.loop-i.i c.index-lists-i.result c.loop-i-test.true c.loop-i.invariant c.index-lists-i.is
