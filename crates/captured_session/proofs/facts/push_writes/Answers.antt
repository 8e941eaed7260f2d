use Rattle.std.proofs.Common.{arith}
use Rattle.std.proofs.lemmas.Grind.{common_steps}
use Rattle.captured_session.proofs.FactLemmas.{writes-more}
use Rattle.captured_session.specs.SetUps.{element_at}
use Rattle.captured_session.proofs.facts.push_writes.Goals as goal

-- one write more
pub loop-i-preserved : goal.loop-i-preserved
loop-i-preserved c = grind (arith, common_steps, writes-more c.args.pointer c.loop-i.i (element_at c.args.order c.args.packet.now), c.push.ensures, c.loop-i.invariant)
