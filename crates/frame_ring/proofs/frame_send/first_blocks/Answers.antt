use Rattle.std.proofs.Common.{rules, ◌∙◌, ap, length}
use Rattle.frame_ring.proofs.BlockLemmas.{length-chunks}
use Rattle.frame_ring.proofs.HeldLemmas.{cut_is}
use Rattle.frame_ring.proofs.frame_send.first_blocks.Goals as goal

pub returns-clause-blocks : goal.returns-clause-blocks
returns-clause-blocks c = cut_is c.args.count c.args.bytes.now _ c.as_chunks.result.0.now c.requires (search rules) c.as_chunks.ensures.front

pub returns-clause-len : goal.returns-clause-len
returns-clause-len c =
    ap length (cut_is c.args.count c.args.bytes.now _ c.as_chunks.result.0.now c.requires (search rules) c.as_chunks.ensures.front) ∙ length-chunks c.args.count c.args.bytes.now
