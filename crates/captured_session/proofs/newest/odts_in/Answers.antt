use Rattle.std.proofs.Common.{sym, ap, ◌∙◌}
use Rattle.std.specs.Option.{option_or}
use Rattle.captured_session.specs.Lists.{odts_said}
use Rattle.captured_session.proofs.NewestLemmas.{newest-grows}
use Rattle.captured_session.proofs.newest.odts_in.Goals as goal

-- one fact more
pub loop-fact-preserved : goal.loop-fact-preserved
loop-fact-preserved c =
    c.or-said.ensures ∙ ap (λ said. option_or said c.loop-fact.said) c.odts_said.ensures
    ∙ ap (option_or (odts_said c.args.list _)) c.loop-fact.invariant
    ∙ sym (newest-grows (odts_said c.args.list) c.args.facts.now c.loop-fact.fact-index _ c.loop-fact-test.true)
