use Rattle.a2l_entries.specs.Said.{token_at}
use Rattle.a2l_entries.proofs.SaidLemmas.{integer_from}
use Rattle.a2l_entries.proofs.said.whole_number.Goals as goal

pub returns : goal.returns
returns c = integer_from (token_at c.args.word) c.in_ok-bytes.bytes.now c.integer_of.result c.in_ok-bytes.ensures c.integer_of.ensures
