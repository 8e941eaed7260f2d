-- From a run that was done and a printing that succeeded to what was printed of the run.
use Rattle.std.proofs.Common.{◌≡◌, ℕ, Bool, List, ◌++◌, Option, Result, Ok, Err, subst}
use Rattle.std.proofs.lemmas.Bool.{false≢true}
use Rattle.std.specs.Prelude.{IsOk, OnOk, false}
use Rattle.std.specs.Io.KnownBytes.{Appends}
use Rattle.frame_writer.specs.Shown.{OutState}
use Rattle.run_file.specs.RunFile.{RunData}
use Rattle.daq_engine.specs.declared.report.Report.{Report}
use Rattle.daq_sim.specs.Printed.{account_text, frames_text}
use Rattle.daq_sim.specs.Done.{CameTo, PrintsRun}

-- what a printing says that succeeded
where_ok : {T E : Type 0} (printing : Result T E) (P : Type 0) → IsOk printing → OnOk printing P → P
where_ok (Ok x) P ok p = p
where_ok (Err e) P ok p = absurd (false≢true ok)

-- the line of the frames is that of what the writer of the run shows
pub prints_run : {T E : Type 0} (threads : Bool) (frames_line : List ℕ → Option (List ℕ)) (run : RunData) (status : ℕ)
    (before after : Option (List ℕ)) (refused : ℕ) (report : Report) (written : OutState)
    (printing : Result T E) (line : Option (List ℕ))
    → CameTo threads run refused report written → line ≡ frames_line written.contents
    → (status ≡ 0 → IsOk printing × (report.failed ≡ false))
    → OnOk printing (Appends before after (frames_text line ++ account_text refused report))
    → PrintsRun threads frames_line run status before after
prints_run threads frames_line run status before after refused report written printing line comes framed well prints =
    record {
      refused = refused;
      report = report;
      written = written;
      comes_to = comes;
      well = λ zero. (well zero).1;
      printed = λ zero. subst (λ l. Appends before after (frames_text l ++ account_text refused report)) framed
          (where_ok printing _ (well zero).0 prints);
    }
