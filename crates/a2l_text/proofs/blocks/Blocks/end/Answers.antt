use Rattle.std.proofs.Common.{◌≡◌, length, sym, ◌∙◌, arith}
use Rattle.std.proofs.lemmas.Result.{err_from_is_err_and}
use Rattle.a2l_text.specs.States.{state_of, open_of}
use Rattle.a2l_text.proofs.StepLemmas.{no_end, stops_wrong, same_name, stray_done, end_done, pushed}
use Rattle.a2l_text.proofs.blocks.Blocks.end.Goals as goal

pub returns-in_err-name-clause-err : goal.returns-in_err-name-clause-err
returns-in_err-name-clause-err c =
    let s = state_of c.args.self.now in
    let p = err_from_is_err_and c.from_residual.result c.from_residual.ensures.1 in
    rw (p.1, p.2) (no_end c.in_err-name.field-0.0 s.role s.around s.gathered s.ahead c.in_err-name.ensures.err)

pub returns-then-not-is_name_of-clause-err : goal.returns-then-not-is_name_of-clause-err
returns-then-not-is_name_of-clause-err c =
    let s = state_of c.args.self.now in
    stops_wrong c.awaits_end.result s.role (open_of c.in-Some.block) s.around _ s.gathered s.ahead _ _ c.in_ok-name.ensures.ok (sym c.is_name_of.ensures ∙ c.if-not-is_name_of.true)
    (pushed c.pop.new.self.items c.args.self.now.around.items c.in-Some.block c.in-Some.ensures.items)

pub returns-in-None-clause-err : goal.returns-in-None-clause-err
returns-in-None-clause-err c =
    let s = state_of c.args.self.now in
    let none : length c.args.self.now.around.items ≡ 0 = omega (arith, c.args.self.now.around.ok.0, c.in-None.ensures.cases.0) in
    stray_done s.role c.args.self.now.around.items s.gathered s.ahead _ _ c.in_ok-name.ensures.ok none

pub returns-else-not-is_name_of-clause-ok : goal.returns-else-not-is_name_of-clause-ok
returns-else-not-is_name_of-clause-ok c =
    let s = state_of c.args.self.now in
    end_done s.role _ (open_of c.in-Some.block) s.around _ s.gathered s.ahead _ _ c.in_ok-name.ensures.ok (same_name _ _ (sym c.is_name_of.ensures ∙ c.if-not-is_name_of.false)) c.part-part.ensures
    (pushed c.pop.new.self.items c.args.self.now.around.items c.in-Some.block c.in-Some.ensures.items)
