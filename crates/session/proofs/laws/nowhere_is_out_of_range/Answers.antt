use Rattle.session.proofs.WriteLemmas.{nowhere_is_out_of_range}
use Rattle.session.proofs.laws.nowhere_is_out_of_range.Goals as goal

pub returns : goal.returns
returns c = nowhere_is_out_of_range
