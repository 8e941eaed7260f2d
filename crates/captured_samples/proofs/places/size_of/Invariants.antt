use Rattle.std.specs.Prelude.{◌≡◌, ◌≤◌, ◌*◌, take}
use Rattle.captured_samples.specs.Places.{size_of}
use Rattle.captured_samples.proofs.places.size_of.Given as goal

-- the bytes of those before
abbrev pub invariant-loop-entry : goal.invariant-loop-entry
invariant-loop-entry l =
    (l.len ≡ size_of (take l.entry-index l.entries)) × (l.len ≤ 255 * l.entry-index)
