use Rattle.std.proofs.Common.{Some, None}
use Rattle.a2l_entries.specs.Said.{number_said}
use Rattle.a2l_entries.proofs.SaidLemmas.{number_is}
use Rattle.a2l_entries.proofs.said.number_in.Goals as goal

pub returns-in-Some : goal.returns-in-Some
unfolding number_said
returns-in-Some c = rw c.in_ok-bytes.ensures (number_is c.in_ok-bytes.bytes.now (Some c.in-Some.number) c.in-Some.ensures)

pub returns-in-None : goal.returns-in-None
unfolding number_said
returns-in-None c = rw c.in_ok-bytes.ensures (number_is c.in_ok-bytes.bytes.now None c.in-None.ensures)
