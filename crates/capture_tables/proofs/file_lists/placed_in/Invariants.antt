-- those of the columns so far
use Rattle.std.proofs.Common.{take}
use Rattle.capture_tables.specs.FileLists.{ArePlacedIn}
use Rattle.capture_tables.proofs.file_lists.placed_in.Given as goal

abbrev pub invariant-loop-column : goal.invariant-loop-column
invariant-loop-column l = ArePlacedIn l.list (take l.column-index l.columns) l.placed.items
