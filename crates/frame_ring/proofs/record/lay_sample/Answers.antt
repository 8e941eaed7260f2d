use Rattle.std.proofs.Common.{arith, ap, ◌∙◌, ◌+◌, ◌-◌, ◌*◌, length, refl, take, ◌++◌}
use Rattle.xcp_base.specs.Samples.{SampleParts}
use Rattle.frame_ring.specs.Records.{blocks_for}
use Rattle.frame_writer.specs.Frame.{unnumbered}
use Rattle.frame_ring.proofs.LayLemmas.{head_same, laid}
use Rattle.frame_ring.proofs.RecordLemmas.{frames_fit, sample_bytes}
use Rattle.frame_ring.proofs.record.lay_sample.Goals as goal

pub overflow_cast-len : goal.overflow_cast-len
overflow_cast-len g c =
    let packets = g.M.SampleMaker.packets c.args.maker.now in
    omega (arith, c.frames_len-len.ensures, frames_fit packets (g.met.M.SampleMaker.within c.args.maker.now))

pub lay_head-behind-requires : goal.lay_head-behind-requires
lay_head-behind-requires g c =
    let s : SampleParts = record { channel = c.args.channel; list = c.args.list; number = c.args.number; packets = g.M.SampleMaker.packets c.args.maker.now } in
    record { room = omega (arith, c.requires.room, sample_bytes s) }

pub lay_frames-end-requires : goal.lay_frames-end-requires
lay_frames-end-requires g c =
    let s : SampleParts = record { channel = c.args.channel; list = c.args.list; number = c.args.number; packets = g.M.SampleMaker.packets c.args.maker.now } in
    record { room = omega (arith, c.requires.room, sample_bytes s, c.lay_head-behind.ensures.end, c.lay_head-behind.ensures.len) }

pub lay_fill-requires : goal.lay_fill-requires
lay_fill-requires g c =
    let s : SampleParts = record { channel = c.args.channel; list = c.args.list; number = c.args.number; packets = g.M.SampleMaker.packets c.args.maker.now } in
    record { room = omega (arith, c.requires.room, sample_bytes s, c.lay_head-behind.ensures.end, c.lay_head-behind.ensures.len, c.lay_frames-end.ensures.end, c.lay_frames-end.ensures.len) }

pub returns-clause-bytes : goal.returns-clause-bytes
returns-clause-bytes g c =
    let s : SampleParts = record { channel = c.args.channel; list = c.args.list; number = c.args.number; packets = g.M.SampleMaker.packets c.args.maker.now } in
    let n = length (unnumbered s.packets) in
    let fill = 8 * blocks_for n - n in
    laid s c.args.at c.lay_head-behind.result c.lay_frames-end.result (c.lay_frames-end.result + fill) c.args.out.now c.lay_head-behind.new.out c.lay_frames-end.new.out c.lay_fill.new.out
    (c.lay_head-behind.ensures.bytes ∙ ap (λ h. take c.args.at c.args.out.now ++ h) (head_same s c.count.result c.frames_len-len.result c.count.ensures c.frames_len-len.ensures))
    c.lay_frames-end.ensures.end c.lay_frames-end.ensures.front (c.lay_fill.ensures.bytes fill (omega arith)) c.lay_head-behind.ensures.end refl
