use Rattle.mdf_groups.proofs.LawLemmas.{finds_by_channel}
use Rattle.mdf_groups.proofs.laws.finds_by_channel.Goals as goal

-- the channel has the place of its column
pub returns : goal.returns
returns c = finds_by_channel
