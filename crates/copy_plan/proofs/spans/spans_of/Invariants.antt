use Rattle.std.proofs.Common.{◌≡◌, ◌++◌, drop}
use Rattle.std.specs.Prelude.{All}
use Rattle.daq_store.specs.Configuration.{odt_entries}
use Rattle.copy_plan.specs.Config.{written_entries}
use Rattle.copy_plan.specs.Inner.Joined.{with_bytes, joined_spans}
use Rattle.copy_plan.specs.Inner.Stretched.{BeginsNear, IsNear}
use Rattle.copy_plan.proofs.spans.spans_of.Given as goal

-- the spans so far, the bytes in hand and the entries to come are all; and the spans and the bytes
-- in hand begin near the start of their segments
abbrev pub invariant-loop-entry : goal.invariant-loop-entry
invariant-loop-entry l =
    (l.spans.items ++ with_bytes l.start l.end (joined_spans (written_entries l.channel l.segments (drop l.entry (odt_entries l.conf l.odt))))
    ≡ joined_spans (written_entries l.channel l.segments (odt_entries l.conf l.odt)))
    × All (BeginsNear l.channel l.segments) l.spans.items
    × IsNear l.channel l.segments l.start
