-- What the program prints of a run. Each line ends with a line feed.
use Rattle.std.specs.Prelude.{ℕ, List, [], ◌∷◌, ◌++◌, Option, Some, None, Bool, codes, flat_map}
use Rattle.std.specs.Prelude.{if◌then◌else◌}
use Rattle.std.specs.Fmt.{decimal}
use Rattle.daq_engine.specs.declared.report.ListReport.{ListReport}
use Rattle.daq_engine.specs.declared.report.Report.{Report}

-- text and a line feed
abbrev pub line_of : List ℕ → List ℕ
line_of text = text ++ 10 ∷ []

-- the line of one DAQ list
abbrev pub list_line : ListReport → List ℕ
list_line l = codes "list " ++ decimal l.list ++ codes " due " ++ decimal l.due
    ++ codes " written " ++ decimal l.written ++ codes " dropped " ++ decimal l.dropped
    ++ codes " left " ++ line_of (decimal l.left)

-- yes or no
abbrev pub yes_or_no : Bool → List ℕ
yes_or_no holds = if holds then codes "yes" else codes "no"

-- a line for each DAQ list, how many steps were refused, and whether the writer failed
abbrev pub account_text : ℕ → Report → List ℕ
account_text refused report = flat_map list_line report.lists.items
    ++ line_of (codes "refused " ++ decimal refused)
    ++ line_of (codes "failed " ++ yes_or_no report.failed)

-- the line of the frames, if they were kept
abbrev pub frames_text : Option (List ℕ) → List ℕ
frames_text None = []
frames_text (Some line) = line_of line
