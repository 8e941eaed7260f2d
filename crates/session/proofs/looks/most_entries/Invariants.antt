use Rattle.std.proofs.Common.{◌≡◌, ◌≤◌, length, map, take}
use Rattle.xcp_base.specs.declared.limits.TheConstants.{MAX_ENTRIES}
use Rattle.session.specs.Replies.{most_of}
use Rattle.session.proofs.looks.most_entries.Given as goal

-- the most of the ODTs so far
abbrev pub invariant-loop-odt : goal.invariant-loop-odt
invariant-loop-odt l = record {
  is : l.most ≡ most_of (map length (take l.odt l.conf.odts));
  few : l.most ≤ MAX_ENTRIES;
}
