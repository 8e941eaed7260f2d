-- the number of entries stays, and the list doesn't run
use Rattle.std.proofs.Common.{◌≡◌, ◌∙◌, ◌<◌, length, slice_index_or, refl}
use Rattle.std.proofs.lemmas.List.{get_or_default}
use Rattle.daq_store.specs.contracts.store.Store.{the_view}
use Rattle.daq_store.specs.Configuration.{odt_entries}
use Rattle.daq_store.specs.Standing.{conf_of}
use Rattle.daq_store.specs.Inner.Effects.{fresh_state}
use Rattle.daq_store.proofs.TableLemmas.{below_from}
use Rattle.daq_store.proofs.InvariantLemmas.{entry_keeps}
use Rattle.daq_store.proofs.StandingLemmas.{conf_at, running_at, list_inside}
use Rattle.daq_store.proofs.store.Store.put_entry.Goals as goal

pub invariant_of-self : goal.invariant_of-self
invariant_of-self c =
    let shown = rw (← c.self.view_is) at c.requires.there in
    let stopped = rw (← c.self.view_is) at c.requires.stopped in
    let inside = list_inside (the_view c.self.inside) c.args.list c.args.odt c.args.entry shown in
    let conf : c.state_mut-state.result.now.conf ≡ conf_of (the_view c.self.inside) c.args.list
    = conf_at (the_view c.self.inside) c.args.list c.state_mut-state.result.now c.self.invariant.forms inside c.state_mut-state.ensures.value in
    let there : c.args.entry < length (odt_entries c.state_mut-state.result.now.conf c.args.odt) = rw conf (below_from _ _ shown) in
    rw (c.write.ensures, c.next_place-self-inside.ensures, c.entries-entries.ensures.count)
    (entry_keeps (the_view c.self.inside) c.args.list c.args.odt c.args.entry c.state_mut-state.result.now c.args.value c.self.invariant
    inside c.state_mut-state.ensures.value
    (running_at (the_view c.self.inside) c.args.list c.state_mut-state.result.now inside c.state_mut-state.ensures.value ∙ stopped) there)

pub returns : goal.returns
returns c =
    let shown = rw (← c.self.view_is) at c.requires.there in
    let inside = list_inside (the_view c.self.inside) c.args.list c.args.odt c.args.entry shown in
    let is : c.state_mut-state.result.now ≡ slice_index_or c.self.inside.lists.items c.args.list (fresh_state c.self.inside.form)
    = c.state_mut-state.ensures.value ∙ get_or_default c.self.inside.lists.items c.args.list c.state_mut-state.result.now (fresh_state c.self.inside.form) inside in
    rw (← c.self.view_is, c.write.ensures, c.next_place-self-inside.ensures, c.entries-entries.ensures.count, ← is) refl
