use Rattle.std.proofs.Common.{ℕ, ◌*◌, List, []}
use Rattle.session_file.specs.Playing.{Advances, sending}
use Rattle.session_file.proofs.transport.collect.Given as goal

-- what came back so far was collected
abbrev pub invariant-loop-c : goal.invariant-loop-c
invariant-loop-c l = (sent : List ℕ) → Advances (4 * l.c) (sending l.fn.slave sent) (sending l.slave sent) []
