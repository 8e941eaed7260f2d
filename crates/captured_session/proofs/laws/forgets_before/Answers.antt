use Rattle.captured_session.proofs.SetUpLemmas.{alloc_daq_forgets, free_daq_forgets}
use Rattle.captured_session.proofs.SetUpLemmas.{nothing_is_known}
use Rattle.captured_session.proofs.laws.forgets_before.Goals as goal

pub returns-clause-free : goal.returns-clause-free
returns-clause-free c = free_daq_forgets

pub returns-clause-alloc : goal.returns-clause-alloc
returns-clause-alloc c = alloc_daq_forgets

pub returns-clause-nothing : goal.returns-clause-nothing
returns-clause-nothing c = nothing_is_known
