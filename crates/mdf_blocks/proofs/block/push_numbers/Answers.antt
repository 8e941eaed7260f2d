use Rattle.std.proofs.Common.{◌++◌, ◌∙◌, List, ℕ, ap, append_assoc, arith, sym, take}
use Rattle.std.proofs.lemmas.Slice.{pushed}
use Rattle.mdf_blocks.proofs.NumberLemmas.{uint64s-more}
use Rattle.mdf_blocks.specs.Numbers.{uint64s}
use Rattle.mdf_blocks.proofs.block.push_numbers.Goals as goal

-- one number more stands behind them
pub loop-number-preserved : goal.loop-number-preserved
loop-number-preserved c =
    let i = c.loop-number.number-index in
    let xs = c.args.numbers.now in
    let old = c.args.out.now.items in
    pushed c.to_le_bytes.result c.loop-number.invariant c.in_ok-extend_from_slice.was
    c.extend_from_slice.ensures.items
    ∙ append_assoc old (uint64s (take i xs)) c.to_le_bytes.result
    ∙ ap (λ (zs : List ℕ). old ++ zs) (
    ap (λ (zs : List ℕ). uint64s (take i xs) ++ zs) c.to_le_bytes.ensures
    ∙ sym (uint64s-more xs i (omega arith)))
