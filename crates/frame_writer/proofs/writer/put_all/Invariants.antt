use Rattle.std.proofs.Common.{length, ◌-◌, ◌≡◌, ◌≤◌, ◌++◌, take}
use Rattle.frame_writer.proofs.writer.put_all.Given as goal

-- what was done so far was taken, and nothing went wrong
abbrev pub invariant-loop-done : goal.invariant-loop-done
invariant-loop-done g l = record {
  within : l.done ≤ length l.bytes;
  taken : g.O.Out.contents l.out ≡ g.O.Out.contents l.fn.out ++ take l.done l.bytes;
  failures : g.O.Out.failures l.out ≡ g.O.Out.failures l.fn.out;
  stalls : g.O.Out.stalls l.out ≡ g.O.Out.stalls l.fn.out;
}

abbrev pub decreases-loop-done : goal.decreases-loop-done
decreases-loop-done g l = length l.bytes - l.done
