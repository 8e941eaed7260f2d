use Rattle.std.specs.Io.KnownBytes.{Consumes}
use Rattle.xcpread.proofs.held_capture.held_from.Given as goal

-- what was read is held
abbrev pub invariant-loop : goal.invariant-loop
invariant-loop g l = Consumes (g.I.Read.remaining l.fn.input) (g.I.Read.remaining l.input) l.held.items
