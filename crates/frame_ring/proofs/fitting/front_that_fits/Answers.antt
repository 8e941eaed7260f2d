use Rattle.std.proofs.Common.{◌≡◌, arith, ap, length, sym, take, ◌∙◌}
use Rattle.std.proofs.lemmas.List.{take_all}
use Rattle.frame_writer.specs.Frame.{unnumbered}
use Rattle.frame_ring.proofs.FrameLemmas.{next_frame}
use Rattle.frame_ring.proofs.fitting.front_that_fits.Goals as goal

pub frame_end-end-requires : goal.frame_end-end-requires
frame_end-end-requires c =
    let of = c.requires.of in
    let next = next_frame c.args.frames.now c.requires.packets c.args.count c.loop-k.k c.loop-k.len of c.loop-k-test.true (c.loop-k.invariant.1 c.requires.packets of) in
    omega (arith, next.there)

-- all find room
pub returns-then-frames-room : goal.returns-then-frames-room
returns-then-frames-room c = λ packets of.
    let all : take c.args.count packets ≡ packets = take_all c.args.count packets (omega (arith, of.many)) in
    record {
      some = omega (arith, of.many);
      bytes = ap length of.are ∙ ap (λ qs. length (unnumbered qs)) (sym all);
      fits = c.if-frames-room.true;
      most = λ fewer. absurd (omega (arith, fewer, of.many));
    }

-- the next frame finds no room
pub returns-then-end-room : goal.returns-then-end-room
returns-then-end-room c = λ packets of.
    let is = c.loop-k.invariant.1 packets of in
    let next = next_frame c.args.frames.now packets c.args.count c.loop-k.k c.loop-k.len of c.loop-k-test.true is in
    record {
      some = omega (arith, c.loop-k-test.true, of.many);
      bytes = is;
      fits = c.loop-k.invariant.0;
      most = λ _. omega (arith, c.if-end-room.true, c.frame_end-end.ensures, next.ends);
    }

pub loop-k-preserved : goal.loop-k-preserved
loop-k-preserved c = (
  omega (arith, c.if-end-room.false),
  λ packets of. c.frame_end-end.ensures ∙ (next_frame c.args.frames.now packets c.args.count c.loop-k.k c.loop-k.len of c.loop-k-test.true (c.loop-k.invariant.1 packets of)).ends,
)
