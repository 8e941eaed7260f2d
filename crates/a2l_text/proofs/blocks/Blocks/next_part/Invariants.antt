use Rattle.std.proofs.Common.{◌≤◌, length}
use Rattle.a2l_text.specs.State.{rest_of}
use Rattle.a2l_text.specs.Steps.{Reaches, coming, cleared}
use Rattle.a2l_text.specs.States.{state_of}
use Rattle.a2l_text.proofs.blocks.Blocks.next_part.Given as goal

-- what came so far leads to where reading stands now
abbrev pub invariant-loop-word : goal.invariant-loop-word
invariant-loop-word l =
    Reaches (rest_of l.fn.self.words) (coming (cleared (state_of l.fn.self))) (state_of l.self)
    × (length (rest_of l.self.words) ≤ length (rest_of l.fn.self.words))

abbrev pub decreases-loop-word : goal.decreases-loop-word
decreases-loop-word l = length (rest_of l.self.words)
