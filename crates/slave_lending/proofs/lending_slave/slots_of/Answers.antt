use Rattle.std.proofs.Common.{◌≡◌, ◌∷◌, [], ◌++◌, length, map, sym, ap, ◌∙◌, append_assoc, append-nil, arith}
use Rattle.std.specs.Vec.Iter.{into_iter_items}
use Rattle.slave_lending.specs.Slots.{with_task}
use Rattle.slave_lending.proofs.OpenLemmas.{nothing-left, one-slot-more}
use Rattle.slave_lending.proofs.lending_slave.slots_of.Goals as goal

-- one task more is in its slot
pub loop-task-preserved : goal.loop-task-preserved
loop-task-preserved c =
    let at = c.loop-task in
    let x = c.in-Some.task in
    let steps : into_iter_items at.task-iterator ≡ x ∷ into_iter_items c.next.new.self = c.in-Some.ensures.steps.0 in
    let pushed : c.push.new.self.items ≡ at.slots.items ++ with_task x ∷ [] = c.in_ok-push.ensures.items ∙ ap (λ s. at.slots.items ++ s ∷ []) c.of.ensures in (
      append_assoc at.yielded (x ∷ []) _ ∙ rw (← steps) at.invariant.0,
      one-slot-more at.slots.items c.push.new.self.items at.yielded x pushed at.invariant.1,
      let was = at.invariant.2 in
          let gone = c.in-Some.ensures.steps.1 in
          let short = ap length steps in
          omega arith,
    )

-- these are all
pub returns : goal.returns
returns c =
    let at = c.loop-task in
    let none = c.in-None.ensures.steps in
    let empty : into_iter_items at.task-iterator ≡ [] = nothing-left _ (sym at.invariant.2 ∙ none.0) in
    let all = sym (append-nil at.yielded) ∙ rw empty at at.invariant.0 ∙ c.into_iter-task-iterator.ensures.into_iter_gives.0 in
    at.invariant.1 ∙ ap (λ ts. map with_task ts) all
