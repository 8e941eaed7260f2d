use Rattle.slave_channels.specs.AccountInner.{ChangesBelow, advanced}
use Rattle.slave_channels.proofs.account.advance_lists.Given as goal

-- in the lists so far one measurement more began
abbrev pub invariant-loop-l : goal.invariant-loop-l
invariant-loop-l l = record {
  changes : ChangesBelow l.l l.fn.lists l.lists advanced;
}
