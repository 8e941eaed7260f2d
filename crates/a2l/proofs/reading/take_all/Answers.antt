use Rattle.std.proofs.lemmas.Result.{err_from_is_err_and}
use Rattle.a2l_text.specs.States.{state_of}
use Rattle.a2l.specs.Drafts.{draft_seen}
use Rattle.a2l.proofs.ReadLemmas.{part_taken, part_says_none, all_taken, next_none}
use Rattle.a2l.proofs.reading.take_all.Goals as goal

-- the part that comes is taken
pub loop-part-preserved : goal.loop-part-preserved
loop-part-preserved c =
    let reach = rw c.in-Some.is at c.in_ok-part.ensures.ok in
    part_taken _ _ (state_of c.loop-part.blocks) _ (draft_seen c.loop-part.draft) (draft_seen c.take.new.draft) c.in-Some.part _ c.loop-part.invariant reach c.words.ensures c.in_ok-take.ensures

-- the part that comes says nothing
pub returns-in_err-take-clause-err : goal.returns-in_err-take-clause-err
returns-in_err-take-clause-err c =
    let p = err_from_is_err_and c.from_residual-in_err-take.result c.from_residual-in_err-take.ensures.1 in
    let reach = rw c.in-Some.is at c.in_ok-part.ensures.ok in
    rw (p.1, p.2) (part_says_none c.in_err-take.field-0.0 _ _ (state_of c.loop-part.blocks) _ (draft_seen c.loop-part.draft) (draft_seen c.take.new.draft) c.in-Some.part _ c.loop-part.invariant reach c.words.ensures c.in_err-take.ensures)

-- no part is left
pub returns-clause-ok : goal.returns-clause-ok
returns-clause-ok c =
    all_taken _ _ (state_of c.loop-part.blocks) (draft_seen c.loop-part.draft) c.loop-part.invariant (next_none _ _ _ c.in_default.not-Some c.in_ok-part.ensures.ok)
