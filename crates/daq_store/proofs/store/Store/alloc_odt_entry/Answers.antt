-- the first check that fails is the answer, and what the call changes is read off the calls with this one
use Rattle.daq_store.specs.declared.command.Command.TheVariants.{AllocOdtEntry}
use Rattle.daq_store.proofs.FaultLemmas.{answer_passes, refuses_code, refuses_memory}
use Rattle.daq_store.proofs.EffectLemmas.{entries_put_stands}
use Rattle.daq_store.proofs.store.Store.alloc_odt_entry.Goals as goal

pub returns-in_err-check_alloc_odt_entry-clause-refused : goal.returns-in_err-check_alloc_odt_entry-clause-refused
returns-in_err-check_alloc_odt_entry-clause-refused c =
    refuses_code _ (AllocOdtEntry c.args.list c.args.odt c.args.count) _ _ c.from_residual.ensures.1 c.in_err-check_alloc_odt_entry.ensures.fails

pub returns-in_err-put_entries-clause-refused : goal.returns-in_err-put_entries-clause-refused
returns-in_err-put_entries-clause-refused c =
    refuses_memory _ (AllocOdtEntry c.args.list c.args.odt c.args.count) _ c.from_residual-in_err-put_entries.ensures.1 c.in_ok-check_alloc_odt_entry.ensures.passes

pub returns-clause-accepted : goal.returns-clause-accepted
returns-clause-accepted c = λ calls h.
    (answer_passes c.args.self.now calls (AllocOdtEntry c.args.list c.args.odt c.args.count) h c.in_ok-check_alloc_odt_entry.ensures.passes, rw c.in_ok-put_entries.ensures.ok (entries_put_stands c.args.self.now calls _ _ _ h c.in_ok-check_alloc_odt_entry.ensures.there))
