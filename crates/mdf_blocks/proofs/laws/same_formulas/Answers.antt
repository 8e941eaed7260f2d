use Rattle.mdf_blocks.proofs.FormulaLemmas.{same_formulas}
use Rattle.mdf_blocks.proofs.laws.same_formulas.Goals as goal

pub returns : goal.returns
returns c = same_formulas
