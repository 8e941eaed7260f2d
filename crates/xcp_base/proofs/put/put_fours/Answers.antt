use Rattle.std.proofs.Common.{length, arith}
use Rattle.xcp_base.specs.Copied.{IsSpanAt}
use Rattle.xcp_base.proofs.FourLemmas.{All-in_fours, length-copied_at-four}
use Rattle.xcp_base.proofs.put.put_fours.Goals as goal

-- the spans of a four are some of all
pub put_four-at-requires-clause-inside : goal.put_four-at-requires-clause-inside
put_four-at-requires-clause-inside g c =
    All-in_fours (IsSpanAt (length c.args.bytes.now) g.row.N) c.args.fours.now c.loop-four.four-index c.loop-four-test.true c.requires.inside

-- what the next four copies is a part of what all copy
pub put_four-at-requires-clause-room : goal.put_four-at-requires-clause-room
put_four-at-requires-clause-room g c =
    let part = length-copied_at-four c.args.bytes.now g.row.N c.args.fours.now c.loop-four.four-index c.loop-four-test.true in
    omega (arith, c.requires.room, c.loop-four.invariant.0, c.loop-four.invariant.2, part)
