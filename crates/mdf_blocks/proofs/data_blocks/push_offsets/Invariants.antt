use Rattle.std.proofs.Common.{◌≡◌, ◌++◌, map, take}
use Rattle.mdf_blocks.specs.Numbers.{uint64s}
use Rattle.mdf_blocks.proofs.data_blocks.push_offsets.Given as goal

-- the offsets so far stand behind what was there
abbrev pub invariant-loop-block : goal.invariant-loop-block
invariant-loop-block l =
    l.out.items ≡ l.fn.out.items ++ uint64s (map (λ b. b.offset) (take l.block-index l.blocks))
