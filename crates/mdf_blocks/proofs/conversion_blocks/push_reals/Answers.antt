use Rattle.std.proofs.Common.{◌++◌, ◌∙◌, List, ℕ, ap, arith}
use Rattle.std.specs.Float.{nan}
use Rattle.mdf_blocks.proofs.NumberLemmas.{reals-pushed}
use Rattle.mdf_blocks.proofs.conversion_blocks.push_reals.Goals as goal

-- one float more stands behind them
pub loop-value-preserved : goal.loop-value-preserved
loop-value-preserved c =
    reals-pushed c.args.out.now.items c.to_le_bytes.result c.extend_from_slice.new.self.items
    c.args.values.now c.loop-value.value-index c.f64_to_bits_with_nan.result nan
    (omega arith) c.f64_to_bits_with_nan.ensures c.to_le_bytes.ensures
    (c.in_ok-extend_from_slice.ensures.items
    ∙ ap (λ (zs : List ℕ). zs ++ c.to_le_bytes.result) c.loop-value.invariant)
