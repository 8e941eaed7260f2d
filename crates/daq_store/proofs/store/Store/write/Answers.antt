-- the first check that fails is the answer, and what the call changes is read off the calls with this one
use Rattle.daq_store.specs.declared.command.Command.TheVariants.{WriteDaq}
use Rattle.daq_store.proofs.FaultLemmas.{answer_passes, refuses_code}
use Rattle.daq_store.proofs.EffectLemmas.{entry_put_stands}
use Rattle.daq_store.proofs.store.Store.write.Goals as goal

pub returns-in_err-list-clause-refused : goal.returns-in_err-list-clause-refused
returns-in_err-list-clause-refused c =
    refuses_code _ (WriteDaq c.args.bit c.args.size c.args.ext c.args.addr) _ _ c.from_residual.ensures.1 c.in_err-list.ensures.fails

pub returns-clause-accepted : goal.returns-clause-accepted
returns-clause-accepted c = λ calls h.
    (answer_passes c.args.self.now calls (WriteDaq c.args.bit c.args.size c.args.ext c.args.addr) h c.in_ok-list.ensures.passes, rw c.put_entry.ensures (entry_put_stands c.args.self.now calls c.args.bit _ c.args.ext _ _ _ _ h c.in_ok-list.ensures.place c.in_ok-list.ensures.there))
