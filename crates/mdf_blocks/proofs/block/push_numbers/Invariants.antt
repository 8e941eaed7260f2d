use Rattle.std.proofs.Common.{◌≡◌, ◌++◌, take}
use Rattle.mdf_blocks.specs.Numbers.{uint64s}
use Rattle.mdf_blocks.proofs.block.push_numbers.Given as goal

-- the numbers so far stand behind what was there
abbrev pub invariant-loop-number : goal.invariant-loop-number
invariant-loop-number l =
    l.out.items ≡ l.fn.out.items ++ uint64s (take l.number-index l.numbers)
