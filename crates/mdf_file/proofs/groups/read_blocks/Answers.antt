use Rattle.std.proofs.Common.{arith}
use Rattle.mdf_file.proofs.RecordLemmas.{small_taken}
use Rattle.mdf_file.proofs.groups.read_blocks.Goals as goal

-- one block more
pub loop-block-preserved : goal.loop-block-preserved
loop-block-preserved c =
    small_taken c.args.blocks.now c.loop-block.block-index _ (omega arith)
    c.loop-block.invariant c.read_block.ensures.0 c.read_block.ensures.1
