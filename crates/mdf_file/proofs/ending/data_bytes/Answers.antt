use Rattle.std.proofs.Common.{◌+◌, ◌++◌, ◌∙◌, List, ℕ, ap, arith, length, refl}
use Rattle.mdf_blocks.specs.Blocks.{filled}
use Rattle.mdf_blocks.specs.Records.{dt_block}
use Rattle.mdf_file.proofs.RecordLemmas.{adds_data}
use Rattle.mdf_file.proofs.ending.data_bytes.Goals as goal

-- the block is all that was written
pub returns : goal.returns
returns c place before aligned =
    let block : List ℕ = filled (dt_block c.args.records.now) in
    adds_data place (place + length before) before (before ++ c.push_data.new.out.items)
    c.args.records.now refl aligned (omega arith)
    (ap (λ (bs : List ℕ). before ++ bs)
    (c.in_ok-push_data.ensures ∙ ap (λ (bs : List ℕ). bs ++ block) c.new-out.ensures.items))
