use Rattle.std.proofs.Common.{◌≡◌, ◌∷◌, [], length, sym, ap, ◌∙◌, append_assoc, append-nil, arith}
use Rattle.std.specs.Vec.Iter.{into_iter_items}
use Rattle.session_file.specs.Playing.{lines_of}
use Rattle.session_file.proofs.TaskLemmas.{lines-more, nothing-left}
use Rattle.session_file.proofs.player.finish_all.Goals as goal

-- one task more is finished
pub loop-task-preserved : goal.loop-task-preserved
loop-task-preserved c =
    let at = c.loop-task in
    let x = c.in-Some.task in
    let steps : into_iter_items at.task-iterator ≡ x ∷ into_iter_items c.next.new.self = c.in-Some.ensures.steps.0 in (
      append_assoc at.yielded (x ∷ []) _ ∙ rw (← steps) at.invariant.0,
      lines-more at.ends.items c.push.new.self.items at.yielded x c.finish.result c.in_ok-push.ensures.items c.finish.ensures.line at.invariant.1,
      let was = at.invariant.2 in
          let gone = c.in-Some.ensures.steps.1 in
          let short = ap length steps in
          omega arith,
    )

-- these are all
pub returns : goal.returns
returns c =
    let at = c.loop-task in
    let none = c.in-None.ensures.steps in
    let empty : into_iter_items at.task-iterator ≡ [] = nothing-left _ (sym at.invariant.2 ∙ none.0) in
    let all = sym (append-nil at.yielded) ∙ rw empty at at.invariant.0 ∙ c.into_iter-task-iterator.ensures.into_iter_gives.0 in
    record { lines = at.invariant.1 ∙ ap lines_of all }
