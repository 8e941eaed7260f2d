use Rattle.std.proofs.Common.{arith}
use Rattle.datagrams.proofs.StreamLemmas.{numbered-none}
use Rattle.datagrams.proofs.tcp_stream.place_with.Goals as goal

pub returns-clause-none : goal.returns-clause-none
returns-clause-none c = λ _. numbered-none c.args.came.now c.loop-i.i c.args.number c.loop-i.invariant (omega arith)
