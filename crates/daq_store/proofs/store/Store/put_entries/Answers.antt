use Rattle.std.proofs.Common.{List, set, sym, ap, ◌∙◌, subst}
use Rattle.std.proofs.lemmas.List.{set-get_or}
use Rattle.daq_store.specs.contracts.store.Store.{the_view}
use Rattle.daq_store.specs.declared.list_state.ListState.{ListState}
use Rattle.daq_store.specs.Configuration.{Configuration}
use Rattle.daq_store.specs.Standing.{IsStore}
use Rattle.daq_store.proofs.store.Store.put_entries.Goals as goal

-- out of memory, the list is as it was
pub invariant_of-self : goal.invariant_of-self
invariant_of-self c =
    let Keeps : List ListState → Type 0 = λ lists. IsStore (record (the_view c.self.inside) { lists = lists }) in
    let state : ListState = c.state_mut-state.result.now in
    let back = ap (λ (conf : Configuration). set c.self.inside.lists.items c.args.list (record { conf = conf; running = state.running; selected = state.selected })) c.in_err-allocate_entries.ensures.err in
    let same = ap (set c.self.inside.lists.items c.args.list) c.state_mut-state.ensures.value ∙ set-get_or c.self.inside.lists.items c.args.list state in
    subst Keeps (sym (back ∙ same)) c.self.invariant
