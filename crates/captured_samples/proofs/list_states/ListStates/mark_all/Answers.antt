use Rattle.std.proofs.Common.{List, ap, length, ◌∙◌, ◌≡◌}
use Rattle.std.proofs.lemmas.List.{length-map, with_items_is}
use Rattle.captured_samples.specs.Inner.{marked_state}
use Rattle.captured_samples.specs.Standing.{marked}
use Rattle.captured_samples.specs.declared.list_state.ListState.{ListState}
use Rattle.captured_samples.proofs.ReadLemmas.{each-kept, marked-kept}
use Rattle.captured_samples.proofs.list_states.ListStates.mark_all.Goals as goal

pub returns : goal.returns
returns c ls e =
    let many : length c.mark_all.new.lists ≡ c.self.inside.lists.len =
    ap (λ (xs : List ListState). length xs) c.mark_all.ensures ∙ length-map c.deref_mut.result.now marked_state ∙ c.deref_mut.ensures.len in
    each-kept marked_state marked (record { lists = c.self.inside.lists.items; begun = c.self.inside.begun }) ls
    c.deref_mut.result.now _ (c.self.view_is ∙ e) c.deref_mut.ensures.value
    (with_items_is c.self.inside.lists c.mark_all.new.lists many ∙ c.mark_all.ensures) (marked-kept ls.lists)
