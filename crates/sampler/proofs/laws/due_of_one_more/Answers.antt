use Rattle.sampler.proofs.Histories.{due-more}
use Rattle.sampler.proofs.laws.due_of_one_more.Goals as goal

pub returns : goal.returns
returns c = due-more
