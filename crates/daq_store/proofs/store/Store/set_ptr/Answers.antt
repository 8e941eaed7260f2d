-- the first check that fails is the answer, and what the call changes is read off the calls with this one
use Rattle.daq_store.specs.declared.command.Command.TheVariants.{SetDaqPtr}
use Rattle.daq_store.proofs.FaultLemmas.{answer_passes, refuses_code}
use Rattle.daq_store.proofs.EffectLemmas.{pointer_put_stands}
use Rattle.daq_store.proofs.store.Store.set_ptr.Goals as goal

pub returns-in_err-check_set_ptr-clause-refused : goal.returns-in_err-check_set_ptr-clause-refused
returns-in_err-check_set_ptr-clause-refused c =
    refuses_code _ (SetDaqPtr c.args.list c.args.odt c.args.entry) _ _ c.from_residual.ensures.1 c.in_err-check_set_ptr.ensures.fails

pub returns-clause-accepted : goal.returns-clause-accepted
returns-clause-accepted c = λ calls h.
    (answer_passes c.args.self.now calls (SetDaqPtr c.args.list c.args.odt c.args.entry) h c.in_ok-check_set_ptr.ensures.passes, rw c.put_pointer.ensures (pointer_put_stands c.args.self.now calls _ _ _ h c.in_ok-check_set_ptr.ensures.there))
