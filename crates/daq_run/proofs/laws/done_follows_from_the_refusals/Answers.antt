use Rattle.daq_run.proofs.LawLemmas.{refusals_decide}
use Rattle.daq_run.proofs.laws.done_follows_from_the_refusals.Goals as goal

pub returns : goal.returns
returns c = refusals_decide
