use Rattle.std.proofs.Common.{◌++◌, ◌∙◌, List, ℕ, ap, arith, refl}
use Rattle.mdf_blocks.specs.declared.listed_data.ListedData.{ListedData}
use Rattle.mdf_blocks.proofs.NumberLemmas.{numbers-pushed}
use Rattle.mdf_blocks.proofs.data_blocks.push_offsets.Goals as goal

-- one offset more stands behind them
pub loop-block-preserved : goal.loop-block-preserved
loop-block-preserved c =
    numbers-pushed (λ (b : ListedData). b.offset) c.args.blocks.now c.loop-block.block-index _
    c.args.out.now.items c.to_le_bytes.result c.extend_from_slice.new.self.items _
    (omega arith) refl c.to_le_bytes.ensures
    (c.in_ok-extend_from_slice.ensures.items
    ∙ ap (λ (zs : List ℕ). zs ++ c.to_le_bytes.result) c.loop-block.invariant)
