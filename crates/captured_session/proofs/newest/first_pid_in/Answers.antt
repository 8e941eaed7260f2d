use Rattle.std.proofs.Common.{sym, ap, ◌∙◌}
use Rattle.std.specs.Option.{option_or}
use Rattle.captured_session.specs.Lists.{first_pid_said}
use Rattle.captured_session.proofs.NewestLemmas.{newest-grows}
use Rattle.captured_session.proofs.newest.first_pid_in.Goals as goal

-- one fact more
pub loop-fact-preserved : goal.loop-fact-preserved
loop-fact-preserved c =
    c.or-said.ensures ∙ ap (λ said. option_or said c.loop-fact.said) c.first_pid_said.ensures
    ∙ ap (option_or (first_pid_said c.args.list _)) c.loop-fact.invariant
    ∙ sym (newest-grows (first_pid_said c.args.list) c.args.facts.now c.loop-fact.fact-index _ c.loop-fact-test.true)
