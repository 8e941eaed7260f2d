-- What is printed of a recording that was read to its end.
use Rattle.std.specs.Prelude.{◌≡◌, ℕ, List, [], Option}
use Rattle.std.specs.Io.KnownBytes.{Appends, IsAtEnd}
use Rattle.sample_picture.specs.Shown.{IsClosed}
use Rattle.copy_plan.specs.Config.{ListPlan}
use Rattle.daq_reader.specs.Lists.{NoneWaits, plans_of}
use Rattle.daq_reader.specs.Reading.{Reading}
use Rattle.daq_reader.specs.Recorded.{Recorded}
use Rattle.recording.specs.Pieces.{Passes}
use Rattle.sample_tables.specs.Rows.{csv_text}
use Rattle.sample_tables.specs.Tables.{table_text}
use Rattle.recording.specs.declared.mode.Mode.{Mode}
use Rattle.recording.specs.declared.mode.Mode.TheVariants.{Csv, Summary, Svg}
use Rattle.recording.specs.declared.piece.Piece.{Piece}

-- the output had these bytes before and has those now: behind them stands the table, or the CSV, of
-- these samples of these lists. Of a picture only its end is told
abbrev pub IsShown :
    Mode → List ListPlan → List (ℕ × Recorded) → Option (List ℕ) → Option (List ℕ) → Type 0
IsShown Summary plans samples before after = Appends before after (table_text plans samples)
IsShown Csv plans samples before after = Appends before after (csv_text plans samples)
IsShown Svg plans samples before after =
    (text : List ℕ) × IsClosed text × Appends before after text

-- a recording was read to its end, from one piece to another, and so is shown what is said of all
-- its samples: those of its packets, of which none waits for others
pub record ShowsBy (IsSo : List ListPlan → List (ℕ × Recorded) → Type 0) (lists : List Reading)
    (input rest : Option (List ℕ)) (first last : Piece)
    : Type 0 where
  -- fixed by `read`
  pub now : List Reading
  pub samples : List (ℕ × Recorded)
  pub read : Passes lists [] now samples input rest first last
  pub plans : plans_of now ≡ plans_of lists
  pub end : IsAtEnd rest
  pub all : last.bytes.items ≡ []
  pub whole : NoneWaits now
  pub shown : IsSo (plans_of lists) samples

-- all of its samples are shown
abbrev pub ShowsAll :
    Mode → List Reading → Option (List ℕ) → Option (List ℕ) → Piece → Piece
    → Option (List ℕ) → Option (List ℕ) → Type 0
ShowsAll mode lists input rest first last before after =
    ShowsBy (λ plans samples. IsShown mode plans samples before after) lists input rest first last

-- a recording was read to its end, from one piece to another
abbrev pub IsRead :
    List Reading → Option (List ℕ) → Option (List ℕ) → Piece → Piece → Type 0
IsRead lists input rest first last = ShowsBy (λ plans samples. Unit {0}) lists input rest first last
