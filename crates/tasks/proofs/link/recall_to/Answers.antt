use Rattle.tasks.proofs.link.recall_to.Goals as goal

pub recall-requires : goal.recall-requires
recall-requires g c = c.requires c.in-Some.away c.in-Some.is
