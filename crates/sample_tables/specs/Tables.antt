-- The table that is printed of the samples of DAQ lists. Each line ends with a line feed.
use Rattle.std.specs.Prelude.{ℕ, ◌-◌, ◌^◌, false, List, [], ◌∷◌, ◌++◌, codes, flat_map}
use Rattle.std.specs.Prelude.{Option, Some, None}
use Rattle.std.specs.Fmt.{decimal, format_spec, padded_integral}
use Rattle.std.specs.List.{enumerate_from}
use Rattle.copy_plan.specs.Config.{ListPlan}
use Rattle.daq_reader.specs.Lists.{given}
use Rattle.daq_reader.specs.Recorded.{Recorded}
use Rattle.sample_tables.specs.Tallies.{tally_of}
use Rattle.sample_tables.specs.declared.tally.Tally.{Tally}

-- the end of a line
abbrev pub line_feed : List ℕ
line_feed = 10 ∷ []

-- digits with spaces before them, up to a width, as the standard library aligns a number to the
-- right; of `format_spec`, 32 is the space, 3 means right, 0 no flags, 2 ^ 64 - 1 no precision
abbrev pub right_aligned : ℕ → List ℕ → List ℕ
right_aligned width digits =
    padded_integral (format_spec 32 3 0 width (2 ^ 64 - 1)) false [] digits

-- a column: a space, and a number, right-aligned in `width`
abbrev pub column : ℕ → ℕ → List ℕ
column width number = codes " " ++ right_aligned width (decimal number)

-- ticks in a column of width 10, or `-` at its end if there are none
abbrev pub ticks_text : Option ℕ → List ℕ
ticks_text None = codes "          -"
ticks_text (Some ticks) = column 10 ticks

-- the line of a DAQ list: its number, its event channel, and what its tally counts
abbrev pub tally_text : ℕ → ℕ → Tally → List ℕ
tally_text list channel t = right_aligned 4 (decimal list) ++ column 7 channel
    ++ column 12 t.samples ++ column 12 t.overloads
    ++ ticks_text t.first ++ ticks_text t.last ++ line_feed

abbrev pub tally_line : ListPlan → Tally → List ℕ
tally_line plan t = tally_text plan.list plan.channel t

-- the line of the DAQ list at a place: it tells of the samples that were given back for it
abbrev pub list_line : List (ℕ × Recorded) → ℕ × ListPlan → List ℕ
list_line samples (place, plan) = tally_line plan (tally_of (given place samples))

-- the names of the columns, as wide as these
abbrev pub head_line : List ℕ
head_line = codes "list channel      samples    overloads      first       last" ++ line_feed

-- what `print_summary` prints: the head, and a line for each DAQ list
abbrev pub table_text : List ListPlan → List (ℕ × Recorded) → List ℕ
table_text plans samples = head_line ++ flat_map (list_line samples) (enumerate_from 0 plans)
