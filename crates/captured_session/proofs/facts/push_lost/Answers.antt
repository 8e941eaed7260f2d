use Rattle.std.proofs.Common.{arith, None}
use Rattle.std.proofs.lemmas.Grind.{common_steps}
use Rattle.captured_session.proofs.FactLemmas.{writes-more}
use Rattle.captured_session.proofs.facts.push_lost.Goals as goal

-- one write more
pub loop-i-preserved : goal.loop-i-preserved
loop-i-preserved c = grind (arith, common_steps, writes-more c.args.pointer c.loop-i.i (λ i. None), c.push.ensures, c.loop-i.invariant)
