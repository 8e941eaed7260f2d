use Rattle.std.proofs.Common.{arith, ◌∙◌}
use Rattle.frame_ring.proofs.FrameLemmas.{next_frame}
use Rattle.frame_ring.proofs.fitting.front_len.Goals as goal

pub frame_end-len-requires : goal.frame_end-len-requires
frame_end-len-requires c =
    let of = c.requires.frames.of in
    let next = next_frame c.args.frames.now c.requires.frames.packets c.args.count c.loop-k.k c.loop-k.len of (omega (arith, c.loop-k-test.true, c.requires.few)) (c.loop-k.invariant c.requires.frames.packets of) in
    omega (arith, next.there)

pub loop-k-preserved : goal.loop-k-preserved
loop-k-preserved c = λ packets of.
    c.frame_end-len.ensures ∙ (next_frame c.args.frames.now packets c.args.count c.loop-k.k c.loop-k.len of (omega (arith, c.loop-k-test.true, c.requires.few)) (c.loop-k.invariant packets of)).ends
