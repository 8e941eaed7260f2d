use Rattle.std.proofs.Common.{◌<◌, [], false, length, ap, ◌∙◌, arith}
use Rattle.std.proofs.Math.Seq.{map-set_same}
use Rattle.transmitter.proofs.PlaceLemmas.{shown_here, takes-look}
use Rattle.transmitter.proofs.turn.look_for.Goals as goal

-- what the end that was asked knows then
pub returns-clause-value : goal.returns-clause-value
returns-clause-value g c =
    let within : c.args.c < length c.args.ends.now.items = omega (arith, c.args.ends.now.ok.0) in
    let here = shown_here g.T.TakeEnd.known c.args.ends.now.items c.args.c c.look.new.self [] within in
    rw here c.look.ensures.value

-- and that its first item was read
pub returns-clause-reads : goal.returns-clause-reads
returns-clause-reads g c = λ yes_item.
    let within : c.args.c < length c.args.ends.now.items = omega (arith, c.args.ends.now.ok.0) in
    shown_here g.T.ItemTake.ready c.args.ends.now.items c.args.c c.look.new.self false within ∙ c.look.ensures.reads yes_item

pub returns-clause-looks : goal.returns-clause-looks
returns-clause-looks g c =
    let e = c.look.ensures in
    takes-look g.T.TakeEnd.received g.T.TakeEnd.known c.args.ends.now.items c.args.c c.index_mut.result.now c.look.new.self (omega (arith, c.args.ends.now.ok.0)) c.index_mut.ensures.value e.received_stays e.grows

-- the end that was asked keeps its ring
pub returns-clause-rings_stay : goal.returns-clause-rings_stay
returns-clause-rings_stay g c = map-set_same g.T.TakeEnd.ring c.args.ends.now.items c.args.c c.look.new.self c.index_mut.result.now (c.look.ensures.ring_stays ∙ ap g.T.TakeEnd.ring c.index_mut.ensures.value)
