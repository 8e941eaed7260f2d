-- What is printed by name of a recording that was read to its end.
use Rattle.std.specs.Prelude.{◌≡◌, ℕ, List, Option}
use Rattle.std.specs.Option.{option_copied, option_or}
use Rattle.std.specs.Io.KnownBytes.{Appends}
use Rattle.sample_picture.specs.Shown.{IsClosed}
use Rattle.a2l.specs.declared.description.Description.{Description}
use Rattle.copy_plan.specs.Config.{ListPlan}
use Rattle.daq_reader.specs.Lists.{plans_of}
use Rattle.daq_reader.specs.Reading.{Reading}
use Rattle.daq_reader.specs.Recorded.{Recorded}
use Rattle.measured_values.specs.declared.tick.Tick.{Tick}
use Rattle.recording.specs.Shown.{ShowsBy}
use Rattle.recording.specs.Stops.{IsFaultOfSamples}
use Rattle.recording.specs.declared.view.View.{View}
use Rattle.recording.specs.declared.mode.Mode.{Mode}
use Rattle.recording.specs.declared.mode.Mode.TheVariants.{Csv, Summary, Svg}
use Rattle.recording.specs.declared.piece.Piece.{Piece}
use Rattle.recording.specs.declared.recording_fault.RecordingFault.{RecordingFault}
use Rattle.recording.specs.declared.recording_fault.RecordingFault.TheVariants.{NoValue}
use Rattle.recording.specs.declared.values.Values.{Values}
use Rattle.value_tables.specs.Columns.{AreColumns, HasChosen}
use Rattle.value_tables.specs.Holders.{lists_hold}
use Rattle.value_tables.specs.TallyText.{IsTable}
use Rattle.value_tables.specs.ValueRows.{IsCsv}
use Rattle.value_tables.specs.declared.column.Column.{Column}

-- a text is the table, or the CSV, of these columns in samples of these lists. Of a picture only
-- its end is told
abbrev pub IsTextOf :
    Mode → Option Tick → List Column → List ListPlan → List (ℕ × Recorded) → List ℕ → Type 0
IsTextOf Summary tick columns plans samples text = IsTable plans columns samples text
IsTextOf Csv tick columns plans samples text = IsCsv tick columns plans samples text
IsTextOf Svg tick columns plans samples text = IsClosed text

-- the output had these bytes before and has those now: behind them stands such a text
abbrev pub IsByName :
    Mode → Option Tick → List Column → Option (List ℕ) → Option (List ℕ) → List ListPlan
    → List (ℕ × Recorded) → Type 0
IsByName mode tick columns before after plans samples =
    (text : List ℕ) × IsTextOf mode tick columns plans samples text × Appends before after text

-- a recording was read to its end, and the values of all its samples are shown by name: of the
-- measurements that are chosen, and that some list has
pub record ShowsByName (values : Values) (lists : List Reading) (input rest : Option (List ℕ))
    (first last : Piece) (before after : Option (List ℕ))
    : Type 0 where
  -- fixed by `are`
  pub columns : List Column
  pub are :
      AreColumns values.description.now (lists_hold (plans_of lists)) (option_copied values.only)
      columns
  pub chosen :
      HasChosen values.description.now (lists_hold (plans_of lists)) (option_copied values.only)
  pub shows :
      ShowsBy (IsByName values.mode values.tick columns before after) lists input rest first last

-- a view asks for these values of a description: how long a tick is it says, and where it doesn't,
-- the file
pub record AreAsked (view : View) (description : Description) (values : Values) : Type 0 where
  pub of : values.description.now ≡ description
  pub only : values.only ≡ view.only
  pub tick : values.tick ≡ option_or view.tick description.tick
  pub mode : values.mode ≡ view.mode

-- a recording isn't shown by name for this: no measurement that is chosen stands in the lists; or
-- its samples aren't all read
abbrev pub IsFaultOfValues :
    Values → List Reading → Option (List ℕ) → Option (List ℕ) → Piece → Piece → RecordingFault
    → Type 0
IsFaultOfValues values lists input rest first last NoValue =
    ¬ HasChosen values.description.now (lists_hold (plans_of lists)) (option_copied values.only)
IsFaultOfValues values lists input rest first last fault =
    IsFaultOfSamples lists input rest first last fault
