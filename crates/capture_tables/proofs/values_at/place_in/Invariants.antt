-- none of the entries of the ODTs so far has the bytes; they have so many
use Rattle.std.proofs.Common.{◌≡◌, ◌*◌, ◌≤◌, false, take}
use Rattle.captured_samples.specs.Places.{size_of as size_of_entries}
use Rattle.measured_values.specs.Encodings.{size_of}
use Rattle.capture_tables.specs.Places.{entries_hold}
use Rattle.capture_tables.proofs.PlaceLemmas.{joined}
use Rattle.capture_tables.proofs.values_at.place_in.Given as goal

abbrev pub invariant-loop-odt : goal.invariant-loop-odt
invariant-loop-odt l =
    (l.before ≡ size_of_entries (joined (take l.odt l.list.odts)))
    × (l.before ≤ 65025 * l.odt)
    × (entries_hold (joined (take l.odt l.list.odts)) l.address (size_of l.data_type) ≡ false)
