-- the bytes of the entries of the ODTs so far
use Rattle.std.proofs.Common.{◌≡◌, ◌*◌, ◌≤◌, take}
use Rattle.captured_samples.specs.Places.{size_of}
use Rattle.capture_tables.proofs.PlaceLemmas.{joined}
use Rattle.capture_tables.proofs.file_lists.sample_len.Given as goal

abbrev pub invariant-loop-odt : goal.invariant-loop-odt
invariant-loop-odt l =
    (l.len ≡ size_of (joined (take l.odt l.list.odts))) × (l.len ≤ 65025 * l.odt)
