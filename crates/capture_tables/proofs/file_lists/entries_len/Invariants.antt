-- the bytes of the entries so far
use Rattle.std.proofs.Common.{◌≡◌, ◌*◌, ◌≤◌, take}
use Rattle.captured_samples.specs.Places.{size_of}
use Rattle.capture_tables.proofs.file_lists.entries_len.Given as goal

abbrev pub invariant-loop-entry : goal.invariant-loop-entry
invariant-loop-entry l =
    (l.len ≡ size_of (take l.entry-index l.entries)) × (l.len ≤ 255 * l.entry-index)
