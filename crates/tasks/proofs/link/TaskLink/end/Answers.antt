use Rattle.tasks.proofs.LineLemmas.{out-sent}
use Rattle.tasks.proofs.link.TaskLink.end.Goals as goal

pub invariant_of-self-else-recall : goal.invariant_of-self-else-recall
invariant_of-self-else-recall g c =
    out-sent _ _ c.self-2.inside.newer c.end_of.new.newer _ c.end_of.ensures c.self-2.invariant
