-- the first check that fails is the answer, and what the call changes is read off the calls with this one
use Rattle.daq_store.specs.declared.command.Command.TheVariants.{StartStopSynch}
use Rattle.daq_store.proofs.FaultLemmas.{answer_passes, refuses_code}
use Rattle.daq_store.proofs.EffectLemmas.{synch_put_stands}
use Rattle.daq_store.proofs.store.Store.synch.Goals as goal

pub returns-in_err-check_synch-clause-refused : goal.returns-in_err-check_synch-clause-refused
returns-in_err-check_synch-clause-refused c =
    refuses_code _ (StartStopSynch c.args.mode) _ _ c.from_residual.ensures.1 c.in_err-check_synch.ensures.fails

pub returns-clause-accepted : goal.returns-clause-accepted
returns-clause-accepted c = λ calls h.
    (answer_passes c.args.self.now calls (StartStopSynch c.args.mode) h c.in_ok-check_synch.ensures.passes, rw c.put_synch.ensures (synch_put_stands c.args.self.now calls _ h))
