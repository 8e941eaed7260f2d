use Rattle.std.proofs.Common.{sym, ap, ◌∙◌}
use Rattle.std.specs.Option.{option_or}
use Rattle.captured_session.specs.Lists.{entry_said}
use Rattle.captured_session.proofs.NewestLemmas.{newest-grows}
use Rattle.captured_session.proofs.newest.entry_in.Goals as goal

-- one fact more
pub loop-fact-preserved : goal.loop-fact-preserved
loop-fact-preserved c =
    c.or-said.ensures ∙ ap (λ said. option_or said c.loop-fact.said) c.entry_said.ensures
    ∙ ap (option_or (entry_said c.args.list c.args.odt c.args.entry _)) c.loop-fact.invariant
    ∙ sym (newest-grows (entry_said c.args.list c.args.odt c.args.entry) c.args.facts.now c.loop-fact.fact-index _ c.loop-fact-test.true)
