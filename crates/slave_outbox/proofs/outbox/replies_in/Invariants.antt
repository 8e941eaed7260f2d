use Rattle.std.proofs.Common.{◌≡◌, ◌≤◌, take}
use Rattle.slave_outbox.specs.Inner.{replies_kept}
use Rattle.slave_outbox.proofs.outbox.replies_in.Given as goal

-- so many of those so far are replies
abbrev pub invariant-loop-i : goal.invariant-loop-i
invariant-loop-i l = record {
  count : l.count ≡ replies_kept (take l.i l.page.waits);
  few : l.count ≤ l.i;
}
