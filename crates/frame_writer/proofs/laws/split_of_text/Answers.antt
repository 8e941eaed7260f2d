use Rattle.frame_writer.proofs.SplitLemmas.{split_of_text}
use Rattle.frame_writer.proofs.laws.split_of_text.Goals as goal

pub returns : goal.returns
returns c = split_of_text
