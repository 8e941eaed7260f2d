use Rattle.std.proofs.Common.{length}
use Rattle.a2l_text.specs.State.{rest_of}
use Rattle.a2l_text.specs.States.{state_of}
use Rattle.a2l.specs.Drafts.{draft_seen}
use Rattle.a2l.specs.Whole.{Continues}
use Rattle.a2l.proofs.reading.take_all.Given as goal

-- what came so far leads on
abbrev pub invariant-loop-part : goal.invariant-loop-part
invariant-loop-part l = Continues (state_of l.fn.blocks) (draft_seen l.fn.draft) (state_of l.blocks) (draft_seen l.draft)

abbrev pub decreases-loop-part : goal.decreases-loop-part
decreases-loop-part l = length (rest_of l.blocks.words)
