use Rattle.std.proofs.Common.{◌∙◌, ◌<◌, sym, arith}
use Rattle.daq_store.specs.Answer.{selects_unready}
use Rattle.daq_store.specs.Shape.{list_count}
use Rattle.session.proofs.StartLemmas.{any-next, any_there}
use Rattle.session.proofs.starts.selects_unready.Goals as goal

-- the list that is selected and not ready is one of all
pub returns-then-is_unready : goal.returns-then-is_unready
returns-then-is_unready c = λ calls h.
    let inside : c.loop-l.l < list_count calls = omega (arith, c.loop-l-test.true, c.lists-l-end.ensures.after calls h) in
    let bad = sym (c.is_unready.ensures calls h inside) ∙ c.if-is_unready.true in
    sym (any_there (selects_unready c.args.store.now.profile calls) c.loop-l.l (list_count calls) inside bad)

-- one list more that isn't
pub loop-l-preserved : goal.loop-l-preserved
loop-l-preserved c = λ calls h.
    let inside : c.loop-l.l < list_count calls = omega (arith, c.loop-l-test.true, c.lists-l-end.ensures.after calls h) in
    let fine = sym (c.is_unready.ensures calls h inside) ∙ c.if-is_unready.false in
    any-next (selects_unready c.args.store.now.profile calls) c.loop-l.l (c.loop-l.invariant calls h) fine
