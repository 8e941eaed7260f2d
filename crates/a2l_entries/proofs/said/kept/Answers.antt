use Rattle.std.proofs.Common.{arith}
use Rattle.a2l_entries.proofs.SaidLemmas.{kept_some}
use Rattle.a2l_entries.proofs.said.kept.Goals as goal

pub returns : goal.returns
returns c = kept_some _ _ (omega arith) c.in_ok-text_of.ensures
