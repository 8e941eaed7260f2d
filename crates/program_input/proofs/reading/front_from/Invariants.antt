-- What was kept is what was read, and is short enough; each read has room.
use Rattle.std.proofs.Common.{◌≡◌, ◌≤◌, length}
use Rattle.std.specs.Io.KnownBytes.{Consumes}
use Rattle.program_input.proofs.reading.front_from.Given as goal

abbrev pub invariant-loop : goal.invariant-loop
invariant-loop g l = Consumes (g.I.Read.remaining l.initial.input) (g.I.Read.remaining l.input) l.bytes.items
    × (length l.bytes.items ≤ 67108864) × (length l.chunk ≡ 65536)
