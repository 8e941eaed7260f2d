-- the first check that fails is the answer, and what the call changes is read off the calls with this one
use Rattle.daq_store.specs.declared.command.Command.TheVariants.{SetDaqListMode}
use Rattle.daq_store.proofs.FaultLemmas.{answer_passes, refuses_code}
use Rattle.daq_store.proofs.EffectLemmas.{mode_put_stands}
use Rattle.daq_store.proofs.store.Store.set_mode.Goals as goal

pub returns-in_err-check_set_mode-clause-refused : goal.returns-in_err-check_set_mode-clause-refused
returns-in_err-check_set_mode-clause-refused c =
    refuses_code _ (SetDaqListMode c.args.mode c.args.list c.args.channel c.args.prescaler c.args.priority) _ _ c.from_residual.ensures.1 c.in_err-check_set_mode.ensures.fails

pub returns-clause-accepted : goal.returns-clause-accepted
returns-clause-accepted c = λ calls h.
    (answer_passes c.args.self.now calls (SetDaqListMode c.args.mode c.args.list c.args.channel c.args.prescaler c.args.priority) h c.in_ok-check_set_mode.ensures.passes, rw c.put_mode.ensures (mode_put_stands c.args.self.now calls c.args.mode _ _ _ _ h c.in_ok-check_set_mode.ensures.there))
