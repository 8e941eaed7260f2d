use Rattle.std.proofs.Common.{◌<◌, [], append-nil, length, sym, ap, ◌∙◌, arith}
use Rattle.std.proofs.Math.Seq.{map-set_same}
use Rattle.transmitter.proofs.PlaceLemmas.{known_here, takes-one}
use Rattle.transmitter.proofs.turn.let_go.Goals as goal

-- what was passed is what was taken
pub returns-clause-takes : goal.returns-clause-takes
returns-clause-takes g c =
    let p = c.pass.ensures.passes in
    let within : c.args.c < length c.args.ends.now.items = omega (arith, c.args.ends.now.ok.0) in
    let here = known_here g.T.TakeEnd.known c.args.ends.now.items c.args.c c.index_mut.result.now within c.index_mut.ensures.value in (
      p.item,
      (g.T.TakeEnd.known c.pass.new.self, sym p.was_first ∙ sym here),
      takes-one g.T.TakeEnd.received g.T.TakeEnd.known c.args.ends.now.items c.args.c c.index_mut.result.now c.pass.new.self p.item within c.index_mut.ensures.value p.taken ([], append-nil (g.T.TakeEnd.known c.index_mut.result.now) ∙ p.was_first),
    )

-- the end that was asked keeps its ring
pub returns-clause-rings_stay : goal.returns-clause-rings_stay
returns-clause-rings_stay g c = map-set_same g.T.TakeEnd.ring c.args.ends.now.items c.args.c c.pass.new.self c.index_mut.result.now (c.pass.ensures.ring_stays ∙ ap g.T.TakeEnd.ring c.index_mut.ensures.value)
