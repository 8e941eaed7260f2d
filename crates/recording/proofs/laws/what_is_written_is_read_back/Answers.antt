use Rattle.recording.proofs.JoinLemmas.{written_is_read_back}
use Rattle.recording.proofs.laws.what_is_written_is_read_back.Goals as goal

pub returns : goal.returns
returns c = written_is_read_back
