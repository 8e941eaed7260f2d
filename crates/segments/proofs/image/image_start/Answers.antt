use Rattle.std.proofs.Common.{arith}
use Rattle.segments.proofs.FitLemmas.{no_segment}
use Rattle.segments.proofs.ImageLemmas.{room_behind, start_more}
use Rattle.segments.proofs.image.image_start.Goals as goal

-- where the next segment begins
pub overflow_add-start : goal.overflow_add-start
overflow_add-start c =
    let room = room_behind c.args.segments.now c.loop-i.i c.args.segment no_segment c.loop-i-test.true c.requires.there in
    omega (arith, room, c.requires.image.len)

pub overflow_add-start-in-loop-i : goal.overflow_add-start-in-loop-i
overflow_add-start-in-loop-i c =
    let room = room_behind c.args.segments.now c.loop-i.i c.args.segment no_segment c.loop-i-test.true c.requires.there in
    omega (arith, room, c.requires.image.len, c.loop-i.invariant)

pub loop-i-preserved : goal.loop-i-preserved
loop-i-preserved c =
    omega (arith, c.loop-i.invariant, start_more c.args.segments.now c.loop-i.i no_segment (omega (arith, c.loop-i-test.true, c.requires.there)))
