use Rattle.std.proofs.Common.{◌+◌, map, take}
use Rattle.run_file.specs.Reading.{AreTextsOf}
use Rattle.run_file.specs.Steps.{IsStepText}
use Rattle.run_file.specs.Inner.{text_in}
use Rattle.run_file.proofs.texts.steps_of.Given as goal

-- the steps so far are those of the texts so far
abbrev pub invariant-loop-value : goal.invariant-loop-value
invariant-loop-value l = AreTextsOf (IsStepText (l.last + 1)) (map text_in (take l.value-index l.values)) l.steps
