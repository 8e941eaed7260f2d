-- the first check that fails is the answer, and what the call changes is read off the calls with this one
use Rattle.daq_store.specs.declared.command.Command.TheVariants.{AllocDaq}
use Rattle.daq_store.proofs.FaultLemmas.{answer_passes, refuses_code, refuses_memory}
use Rattle.daq_store.proofs.EffectLemmas.{lists_put_stands}
use Rattle.daq_store.proofs.store.Store.alloc_daq.Goals as goal

pub returns-in_err-check_alloc_daq-clause-refused : goal.returns-in_err-check_alloc_daq-clause-refused
returns-in_err-check_alloc_daq-clause-refused c =
    refuses_code _ (AllocDaq c.args.count) _ _ c.from_residual.ensures.1 c.in_err-check_alloc_daq.ensures.fails

pub returns-in_err-put_lists-clause-refused : goal.returns-in_err-put_lists-clause-refused
returns-in_err-put_lists-clause-refused c =
    refuses_memory _ (AllocDaq c.args.count) _ c.from_residual-in_err-put_lists.ensures.1 c.in_ok-check_alloc_daq.ensures.passes

pub returns-clause-accepted : goal.returns-clause-accepted
returns-clause-accepted c = λ calls h.
    (answer_passes c.args.self.now calls (AllocDaq c.args.count) h c.in_ok-check_alloc_daq.ensures.passes, rw c.in_ok-put_lists.ensures.ok (lists_put_stands c.args.self.now calls _))
