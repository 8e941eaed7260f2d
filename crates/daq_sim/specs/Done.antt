-- What is printed of a run that was done.
use Rattle.std.specs.Prelude.{◌≡◌, ℕ, Bool, false, true, List, [], ◌++◌, Option, None, Some}
use Rattle.std.specs.Io.KnownBytes.{Appends}
use Rattle.hex.specs.Hex.{encode_lower}
use Rattle.frame_writer.specs.Shown.{OutState}
use Rattle.run_file.specs.RunFile.{IsRunText, RunData}
use Rattle.daq_engine.specs.declared.report.Report.{Report}
use Rattle.daq_run.specs.Runs.{ComesTo}
use Rattle.daq_run.specs.Threads.{ThreadsComeTo}
use Rattle.daq_sim.specs.Printed.{account_text, frames_text}

-- what a writer shows that took nothing yet
abbrev pub nothing_written : OutState
nothing_written = record { contents = []; failures = 0; stalls = 0 }

-- frames that were kept are printed in hexadecimal, and those that went to a file aren't
abbrev pub in_hex : List ℕ → Option (List ℕ)
in_hex bytes = Some (encode_lower bytes)

abbrev pub not_printed : List ℕ → Option (List ℕ)
not_printed bytes = None

-- a run whose writer had taken nothing came to this, in one thread or in threads
abbrev pub CameTo : Bool → RunData → ℕ → Report → OutState → Type 0
CameTo false run refused report written = ComesTo run nothing_written refused report written
CameTo true run refused report written = ThreadsComeTo run nothing_written refused report written

-- a run came to this. If the status is 0, its writer didn't fail, and standard output, which had
-- these bytes before and has those now, has behind them the frames and the account
pub record PrintsRun (threads : Bool) (frames_line : List ℕ → Option (List ℕ)) (run : RunData)
    (status : ℕ) (before after : Option (List ℕ))
    : Type 0 where
  pub refused : ℕ
  pub report : Report
  pub written : OutState
  pub comes_to : CameTo threads run refused report written
  pub well : status ≡ 0 → report.failed ≡ false
  pub printed :
      status ≡ 0
      → Appends before after
      (frames_text (frames_line written.contents) ++ account_text refused report)

-- if a file takes the frames they aren't printed
abbrev pub frames_line_of : {T : Type 0} → Option T → List ℕ → Option (List ℕ)
frames_line_of None = in_hex
frames_line_of (Some file) = not_printed

-- the same of the run of a text
pub record PrintsText (threads : Bool) (frames_line : List ℕ → Option (List ℕ)) (text : List ℕ)
    (status : ℕ) (before after : Option (List ℕ))
    : Type 0 where
  pub run : RunData
  pub is_run : IsRunText text run
  pub prints : PrintsRun threads frames_line run status before after
