use Rattle.std.proofs.Common.{◌≡◌, ◌+◌, take}
use Rattle.frame_page.specs.Inner.{blocks_in, frames_in}
use Rattle.frame_page.proofs.sending.whole_units.Given as goal

-- the units so far are whole
abbrev pub invariant-loop-i : goal.invariant-loop-i
invariant-loop-i g l = record {
  blocks : l.blocks ≡ blocks_in (take l.i l.units.items);
  left : l.count ≡ frames_in (take l.i l.units.items) + l.left;
}
