use Rattle.std.proofs.Common.{◌∙◌, arith, refl}
use Rattle.mdf_blocks.proofs.FoundLemmas.{all_ones}
use Rattle.mdf_blocks.proofs.encoding_places.run_of.Goals as goal

-- they are all ones
pub returns : goal.returns
returns c = record {
  some = omega (arith, c.if-count-eq0.false);
  within = c.if-low-count.false;
  low = refl;
  ones = c.if-ones-count.false ∙ all_ones _ (omega arith);
}
