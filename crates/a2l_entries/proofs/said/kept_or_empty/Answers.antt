use Rattle.std.proofs.Common.{arith}
use Rattle.a2l_entries.proofs.SaidLemmas.{kept_all}
use Rattle.a2l_entries.proofs.said.kept_or_empty.Goals as goal

pub returns : goal.returns
returns c = kept_all _ _ (omega arith) c.in_ok-text_of.ensures
