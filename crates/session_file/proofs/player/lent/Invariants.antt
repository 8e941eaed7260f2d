use Rattle.std.proofs.Common.{◌≡◌, map, take, vec_items}
use Rattle.segments.specs.Memory.{parts}
use Rattle.session_file.proofs.player.lent.Given as goal

-- the slices so far are lent
abbrev pub invariant-loop-slice : goal.invariant-loop-slice
invariant-loop-slice l = parts l.memory.items ≡ map vec_items (take l.slice-index l.slices)
