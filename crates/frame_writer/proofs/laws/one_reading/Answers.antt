use Rattle.frame_writer.proofs.ReadingLemmas.{one_reading}
use Rattle.frame_writer.proofs.laws.one_reading.Goals as goal

pub returns : goal.returns
returns c = one_reading
