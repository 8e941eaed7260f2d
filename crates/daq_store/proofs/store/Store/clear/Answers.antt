-- the first check that fails is the answer, and what the call changes is read off the calls with this one
use Rattle.daq_store.specs.declared.command.Command.TheVariants.{ClearDaqList}
use Rattle.daq_store.proofs.FaultLemmas.{answer_passes, refuses_code}
use Rattle.daq_store.proofs.EffectLemmas.{cleared_put_stands}
use Rattle.daq_store.proofs.store.Store.clear.Goals as goal

pub returns-in_err-check_clear-clause-refused : goal.returns-in_err-check_clear-clause-refused
returns-in_err-check_clear-clause-refused c =
    refuses_code _ (ClearDaqList c.args.list) _ _ c.from_residual.ensures.1 c.in_err-check_clear.ensures.fails

pub returns-clause-accepted : goal.returns-clause-accepted
returns-clause-accepted c = λ calls h.
    (answer_passes c.args.self.now calls (ClearDaqList c.args.list) h c.in_ok-check_clear.ensures.passes, rw c.put_cleared.ensures (cleared_put_stands c.args.self.now calls _ h c.in_ok-check_clear.ensures.there))
