use Rattle.std.proofs.Common.{◌≡◌, take}
use Rattle.recording.specs.Measured.{placed_in}
use Rattle.recording.proofs.file_groups.placed_in.Given as goal

-- the columns so far
abbrev pub invariant-loop-column : goal.invariant-loop-column
invariant-loop-column l = l.placed.items ≡ placed_in l.shape (take l.column-index l.columns)
