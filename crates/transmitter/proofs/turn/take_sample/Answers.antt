use Rattle.std.proofs.Common.{◌≡◌, [], ◌∷◌, ◌++◌, subst, ap, ◌∙◌, arith}
use Rattle.std.proofs.Math.Seq.{map-set_same}
use mathlib.Core.List.{IsPrefix}
use Rattle.transmitter.proofs.PlaceLemmas.{takes-one}
use Rattle.transmitter.proofs.turn.take_sample.Goals as goal

-- the item that was taken is the sample
pub returns-clause-takes : goal.returns-clause-takes
returns-clause-takes g c =
    let e = c.in-Some-Sample.ensures in
    let t = g.T.TakeEnd in
    takes-one t.received t.known c.args.ends.now.items c.args.c c.index_mut.result.now c.take.new.self _ (omega (arith, c.args.ends.now.ok.0)) c.index_mut.ensures.value
    (subst (λ x. t.received c.take.new.self ≡ t.received c.index_mut.result.now ++ x ∷ []) c.in-Some-Sample.field-0-is e.some)
    (subst (λ x. IsPrefix (t.known c.index_mut.result.now) (x ∷ t.known c.take.new.self)) c.in-Some-Sample.field-0-is e.first)

-- the end that was asked keeps its ring
pub returns-clause-rings_stay : goal.returns-clause-rings_stay
returns-clause-rings_stay g c = map-set_same g.T.TakeEnd.ring c.args.ends.now.items c.args.c c.take.new.self c.index_mut.result.now (c.take.ensures.ring_stays ∙ ap g.T.TakeEnd.ring c.index_mut.ensures.value)
