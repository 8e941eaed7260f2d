use Rattle.std.proofs.Common.{ℕ, ◌≤◌, ◌-◌, List, []}
use Rattle.session_file.specs.Playing.{Advances, sending}
use Rattle.session_file.proofs.transport.collect_at.Given as goal

-- what came back so far was collected
abbrev pub invariant-loop-found : goal.invariant-loop-found
invariant-loop-found l = record {
  collected : (sent : List ℕ) → Advances l.found (sending l.fn.slave sent) (sending l.slave sent) [];
  few : l.found ≤ 4;
}

abbrev pub decreases-loop-found : goal.decreases-loop-found
decreases-loop-found l = 4 - l.found
