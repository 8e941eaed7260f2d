use Rattle.slave_channels.specs.AccountInner.{AddsBelow}
use Rattle.slave_channels.proofs.account.add_lines.Given as goal

-- the lines of the lists so far were added
abbrev pub invariant-loop-l : goal.invariant-loop-l
invariant-loop-l l = record {
  adds : AddsBelow l.finished l.behind l.l l.fn.lists l.lists;
}
