use Rattle.std.proofs.Common.{◌≡◌, ◌∷◌, [], ◌+◌, ◌++◌, length, length-append, sym, ap, ◌∙◌, append_assoc, append-nil, subst, arith}
use Rattle.std.specs.Vec.Iter.{into_iter_items}
use Rattle.slave_lending.specs.Slots.{AreEndsOf}
use Rattle.slave_lending.proofs.OpenLemmas.{nothing-left}
use Rattle.slave_lending.proofs.SlotLemmas.{ends-more, next-here}
use Rattle.slave_lending.proofs.closing.ends_of.Goals as goal

-- the slots behind these so far are not away
pub into_end-requires : goal.into_end-requires
into_end-requires c =
    let at = c.loop-slot in
    let x = c.in-Some.slot in
    let steps : into_iter_items at.slot-iterator ≡ x ∷ into_iter_items c.next.new.self = c.in-Some.ensures.steps.0 in
    record {
      not_away = next-here c.args.slots.items at.yielded (into_iter_items c.next.new.self) x
          (rw (← steps) at.invariant.0 ∙ c.into_iter-slot-iterator.ensures.into_iter_gives.0) c.requires.none_away;
    }

-- there is a place for it
pub push_reserved-requires : goal.push_reserved-requires
push_reserved-requires c =
    let at = c.loop-slot in
    let x = c.in-Some.slot in
    let steps : into_iter_items at.slot-iterator ≡ x ∷ into_iter_items c.next.new.self = c.in-Some.ensures.steps.0 in
    let all : at.yielded ++ x ∷ into_iter_items c.next.new.self ≡ c.args.slots.items
    = rw (← steps) at.invariant.0 ∙ c.into_iter-slot-iterator.ensures.into_iter_gives.0 in
    omega (arith, at.invariant.3, at.invariant.4, ap length all, length-append at.yielded (x ∷ into_iter_items c.next.new.self))

-- one is left more
pub loop-slot-preserved : goal.loop-slot-preserved
loop-slot-preserved c =
    let at = c.loop-slot in
    let x = c.in-Some.slot in
    let steps : into_iter_items at.slot-iterator ≡ x ∷ into_iter_items c.next.new.self = c.in-Some.ensures.steps.0 in (
      append_assoc at.yielded (x ∷ []) _ ∙ rw (← steps) at.invariant.0,
      subst (AreEndsOf (at.yielded ++ x ∷ [])) (sym c.push_reserved.ensures.items)
          (ends-more at.yielded at.ends.items x c.into_end.result at.invariant.1 c.into_end.ensures),
      let was = at.invariant.2 in
          let gone = c.in-Some.ensures.steps.1 in
          let short = ap length steps in
          omega arith,
      ap length c.push_reserved.ensures.items ∙ length-append at.ends.items (c.into_end.result ∷ []) ∙ ap (λ n. n + 1) at.invariant.3 ∙ sym (length-append at.yielded (x ∷ [])),
      omega (arith, at.invariant.4, c.push_reserved.ensures.capacity),
    )

-- these are all
pub returns : goal.returns
returns c =
    let at = c.loop-slot in
    let none = c.in-None.ensures.steps in
    let empty : into_iter_items at.slot-iterator ≡ [] = nothing-left _ (sym at.invariant.2 ∙ none.0) in
    let all = sym (append-nil at.yielded) ∙ rw empty at at.invariant.0 ∙ c.into_iter-slot-iterator.ensures.into_iter_gives.0 in
    subst (λ xs. AreEndsOf xs at.ends.items) all at.invariant.1
