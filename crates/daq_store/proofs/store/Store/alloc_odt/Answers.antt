-- the first check that fails is the answer, and what the call changes is read off the calls with this one
use Rattle.daq_store.specs.declared.command.Command.TheVariants.{AllocOdt}
use Rattle.daq_store.proofs.FaultLemmas.{answer_passes, refuses_code, refuses_memory}
use Rattle.daq_store.proofs.EffectLemmas.{odts_put_stands}
use Rattle.daq_store.proofs.store.Store.alloc_odt.Goals as goal

pub returns-in_err-check_alloc_odt-clause-refused : goal.returns-in_err-check_alloc_odt-clause-refused
returns-in_err-check_alloc_odt-clause-refused c =
    refuses_code _ (AllocOdt c.args.list c.args.count) _ _ c.from_residual.ensures.1 c.in_err-check_alloc_odt.ensures.fails

pub returns-in_err-put_odts-clause-refused : goal.returns-in_err-put_odts-clause-refused
returns-in_err-put_odts-clause-refused c =
    refuses_memory _ (AllocOdt c.args.list c.args.count) _ c.from_residual-in_err-put_odts.ensures.1 c.in_ok-check_alloc_odt.ensures.passes

pub returns-clause-accepted : goal.returns-clause-accepted
returns-clause-accepted c = λ calls h.
    (answer_passes c.args.self.now calls (AllocOdt c.args.list c.args.count) h c.in_ok-check_alloc_odt.ensures.passes, rw c.in_ok-put_odts.ensures.ok (odts_put_stands c.args.self.now calls _ _ h c.in_ok-check_alloc_odt.ensures.there))
