use Rattle.std.proofs.Common.{arith}
use Rattle.frame_ring.proofs.RecordLemmas.{frames_fit}
use Rattle.frame_ring.proofs.record.sample_cost.Goals as goal

pub sample_blocks-requires : goal.sample_blocks-requires
sample_blocks-requires g c =
    let packets = g.M.SampleMaker.packets c.args.maker.now in
    omega (arith, c.frames_len.ensures, frames_fit packets (g.met.M.SampleMaker.within c.args.maker.now))

pub returns : goal.returns
returns g c = λ channel list number.
    c.sample_blocks.ensures.cost (record { channel = channel; list = list; number = number; packets = g.M.SampleMaker.packets c.args.maker.now }) c.frames_len.ensures
