use Rattle.std.proofs.Common.{arith}
use Rattle.recording.proofs.StoreLemmas.{all_plans}
use Rattle.recording.proofs.laws.ready_lists_are_all.Goals as goal

-- each list was looked at
pub returns : goal.returns
returns c = λ past of_store.
    let s = c.args.store.now in
    all_plans s (λ l inside ready. c.loop-l.invariant l (omega (arith, inside, c.loop-l-test.false, c.lists-l-end.ensures.value)) ready) past of_store
