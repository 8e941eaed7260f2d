use Rattle.std.proofs.Common.{take}
use Rattle.mdf_file.specs.Adding.{AreSmall}
use Rattle.mdf_file.proofs.groups.read_blocks.Given as goal

-- the numbers so far fit
abbrev pub invariant-loop-block : goal.invariant-loop-block
invariant-loop-block l = AreSmall (take l.block-index l.blocks)
