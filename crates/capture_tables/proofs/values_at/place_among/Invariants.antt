-- none of the entries so far has the bytes; they have so many
use Rattle.std.proofs.Common.{◌≡◌, ◌*◌, ◌≤◌, false, take}
use Rattle.captured_samples.specs.Places.{size_of as size_of_entries}
use Rattle.measured_values.specs.Encodings.{size_of}
use Rattle.capture_tables.specs.Places.{entries_hold}
use Rattle.capture_tables.proofs.values_at.place_among.Given as goal

abbrev pub invariant-loop-entry : goal.invariant-loop-entry
invariant-loop-entry l =
    (l.before ≡ size_of_entries (take l.entry-index l.entries))
    × (l.before ≤ 255 * l.entry-index)
    × (entries_hold (take l.entry-index l.entries) l.address (size_of l.data_type) ≡ false)
