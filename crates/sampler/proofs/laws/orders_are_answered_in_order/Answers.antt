use Rattle.sampler.proofs.Polls.{orders_in_order}
use Rattle.sampler.proofs.laws.orders_are_answered_in_order.Goals as goal

pub returns : goal.returns
returns c = orders_in_order
