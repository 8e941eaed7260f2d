use Rattle.std.proofs.Common.{◌++◌, [], ◌∷◌, ◌+◌, ap, ◌∙◌}
use Rattle.frame_ring.specs.Records.{blocks_for}
use Rattle.frame_page.proofs.PutLemmas.{one_packet}
use Rattle.frame_page.proofs.page.FramePage.put_reply.Goals as goal

pub put-requires-clause-frames : goal.put-requires-clause-frames
put-requires-clause-frames g c = record {
  packets = c.args.packet.now ∷ [];
  of = one_packet c.framed-len.result.0 c.args.packet.now c.framed-len.result.1 c.requires.not_empty c.requires.fits c.framed-len.ensures.bytes;
}

-- its frame has so many bytes
pub returns : goal.returns
returns g c =
    c.put.ensures (c.args.packet.now ∷ []) (one_packet c.framed-len.result.0 c.args.packet.now c.framed-len.result.1 c.requires.not_empty c.requires.fits c.framed-len.ensures.bytes)
    ∙ ap (λ n. record c.args.self.now { waits = c.args.self.now.waits ++ record { origin = c.args.origin; packets = c.args.packet.now ∷ []; blocks = blocks_for n } ∷ []; used = c.args.self.now.used + blocks_for n }) c.framed-len.ensures.len
