use Rattle.frame_writer.proofs.SplitLemmas.{split_is_unique}
use Rattle.frame_writer.proofs.laws.split_is_unique.Goals as goal

pub returns : goal.returns
returns c = split_is_unique
