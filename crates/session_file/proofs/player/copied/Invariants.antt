use Rattle.std.proofs.Common.{◌≡◌, map, take, vec_items}
use Rattle.session_file.proofs.player.copied.Given as goal

-- the slices so far are copied
abbrev pub invariant-loop-slice : goal.invariant-loop-slice
invariant-loop-slice l = map vec_items l.copies.items ≡ map vec_items (take l.slice-index l.slices)
