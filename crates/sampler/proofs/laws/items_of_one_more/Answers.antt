use Rattle.sampler.proofs.Histories.{items-more}
use Rattle.sampler.proofs.laws.items_of_one_more.Goals as goal

pub returns : goal.returns
returns c = items-more
