-- What is shown of the files that the options name.
use Rattle.std.specs.Prelude.{◌≡◌, List, ℕ, Option}
use Rattle.std.specs.Option.{option_copied}
use Rattle.a2l.specs.declared.description.Description.{Description}
use Rattle.run_file.specs.RunFile.{RunData}
use Rattle.recording.specs.Files.{IsOfRun, ShowsFile}
use Rattle.recording.specs.declared.run_recording.RunRecording.{RunRecording}
use Rattle.recording.specs.declared.view.View.{View}
use Rattle.xcpread.specs.declared.command_line.Options.{Options}

-- the file that is named was read to its end, whatever it has, and all is shown of it
pub record ShowsNamed (view : View) (recorded : RunRecording) (before after : Option (List ℕ))
    : Type 0 where
  -- any: no clause tells what a file has
  pub input : Option (List ℕ)
  pub rest : Option (List ℕ)
  pub shows : ShowsFile view recorded input rest before after

-- the file that the options name was read as that of a run, and all is shown of it
pub record ShowsRun (options : Options) (run : RunData) (description : Option Description)
    (before after : Option (List ℕ))
    : Type 0 where
  -- fixed by the other fields, but for stores that stand after the same calls
  pub recorded : RunRecording
  pub of : IsOfRun run recorded
  pub named : recorded.name.now ≡ options.frames.now
  pub described : option_copied recorded.description ≡ description
  pub shows : ShowsNamed options.view recorded before after

-- of some run, and by some A2L file or none
abbrev pub ShowsSomeRun : Options → Option (List ℕ) → Option (List ℕ) → Type 0
ShowsSomeRun options before after =
    (run : RunData) × (description : Option Description)
    × ShowsRun options run description before after
