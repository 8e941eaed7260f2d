use Rattle.std.proofs.Common.{map, take}
use Rattle.run_file.specs.Inner.{text_in}
use Rattle.run_file.specs.Reading.{AreTextsOf}
use Rattle.session_file.specs.Inner.{line_data}
use Rattle.session_file.specs.Lines.{IsLineText}
use Rattle.session_file.proofs.lines.lines_of.Given as goal

-- the lines so far are those of the texts so far
abbrev pub invariant-loop-value : goal.invariant-loop-value
invariant-loop-value l = AreTextsOf IsLineText (map text_in (take l.value-index l.values)) (map line_data l.lines.items)
