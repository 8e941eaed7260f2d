use Rattle.recording.proofs.RunFileLemmas.{is_whole_file}
use Rattle.recording.proofs.laws.what_a_run_wrote_is_whole.Goals as goal

pub returns-clause-in_one_thread : goal.returns-clause-in_one_thread
returns-clause-in_one_thread c = λ run before after refused report recorded r of none fresh.
    is_whole_file run before after report r.has_run.past r.closed.closed.last recorded
    (c.what_a_run_wrote_is_read_back.ensures.in_one_thread run before after refused report recorded.store.now r of.store) of none fresh

pub returns-clause-in_threads : goal.returns-clause-in_threads
returns-clause-in_threads c = λ run before after refused report recorded r of none fresh.
    is_whole_file run before after report r.has_run.past r.closed.closed.last recorded
    (c.what_a_run_wrote_is_read_back.ensures.in_threads run before after refused report recorded.store.now r of.store) of none fresh
