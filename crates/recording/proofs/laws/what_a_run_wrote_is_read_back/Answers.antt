use Rattle.recording.proofs.RunLemmas.{written_in_threads_is_read_back, written_run_is_read_back}
use Rattle.recording.proofs.laws.what_a_run_wrote_is_read_back.Goals as goal

pub returns-clause-in_one_thread : goal.returns-clause-in_one_thread
returns-clause-in_one_thread c = written_run_is_read_back

pub returns-clause-in_threads : goal.returns-clause-in_threads
returns-clause-in_threads c = written_in_threads_is_read_back
