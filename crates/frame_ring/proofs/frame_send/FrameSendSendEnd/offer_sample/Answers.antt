use Rattle.std.proofs.Common.{arith}
use Rattle.xcp_base.specs.Samples.{SampleParts}
use Rattle.frame_ring.proofs.RecordLemmas.{sample_cost}
use Rattle.frame_ring.proofs.frame_send.FrameSendSendEnd.offer_sample.Goals as goal

pub send_sample-requires : goal.send_sample-requires
send_sample-requires g c =
    let s : SampleParts = record { channel = c.args.channel; list = c.args.list; number = c.args.number; packets = g.M.SampleMaker.packets c.args.maker.now } in
    record { fits = omega (arith, sample_cost s, c.requires.fits.frames, c.args.self.now.kept.least) }
