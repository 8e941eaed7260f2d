use Rattle.std.proofs.Common.{◌^◌, ◌<◌, ◌≤◌, All, length, take}
use Rattle.mdf_groups.specs.Places.{ArePlaced, ColumnLiesIn}
use Rattle.mdf_groups.specs.Records.{LiesIn, record_len}
use Rattle.mdf_groups.proofs.record_form.RecordForm.of.Given as goal

-- the columns so far are placed
abbrev pub invariant-loop-column : goal.invariant-loop-column
invariant-loop-column l =
    ArePlaced l.front l.sample_bytes 0 (take l.column-index l.columns) l.places.items l.own.items
    × (record_len l.front l.sample_bytes (length l.own.items) < 2 ^ 32)
    × All (LiesIn l.sample_bytes) l.own.items
    × All (ColumnLiesIn l.sample_bytes) (take l.column-index l.columns)
    × (length l.own.items ≤ l.column-index)
