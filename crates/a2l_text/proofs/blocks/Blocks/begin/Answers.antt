use Rattle.std.proofs.Common.{arith}
use Rattle.std.proofs.lemmas.Result.{err_from_is_err_and}
use Rattle.a2l_text.specs.States.{state_of}
use Rattle.a2l_text.proofs.StepLemmas.{no_begin, too_deep, begin_done, pushed, depth}
use Rattle.a2l_text.proofs.blocks.Blocks.begin.Goals as goal

pub returns-in_err-name-clause-err : goal.returns-in_err-name-clause-err
returns-in_err-name-clause-err c =
    let s = state_of c.args.self.now in
    let p = err_from_is_err_and c.from_residual.result c.from_residual.ensures.1 in
    rw (p.1, p.2) (no_begin c.in_err-name.field-0.0 s.role s.around s.gathered s.ahead c.in_err-name.ensures.err)

pub returns-then-len-ge-MAX_DEPTH-clause-err : goal.returns-then-len-ge-MAX_DEPTH-clause-err
returns-then-len-ge-MAX_DEPTH-clause-err c =
    let s = state_of c.args.self.now in
    too_deep s.role s.around s.gathered s.ahead _ _ c.in_ok-name.ensures.ok (omega (arith, depth c.args.self.now.around.items))

pub returns-clause-ok : goal.returns-clause-ok
returns-clause-ok c =
    let s = state_of c.args.self.now in
    begin_done s.role _ s.around _ s.gathered _ s.ahead _ _ c.in_ok-name.ensures.ok (omega (arith, depth c.args.self.now.around.items)) c.inside-self.ensures
    (pushed c.args.self.now.around.items _ _ c.in_ok-push.ensures.items) c.in_ok-gather_name.ensures
