-- What a run wrote to a file, behind its replies.
use Rattle.std.proofs.Common.{◌≡◌, ℕ, suc, ◌%◌, false, List, [], ◌∷◌, ◌++◌, length, map, refl, sym, ap, ◌∙◌, subst, append-nil}
use Rattle.std.specs.Prelude.{Some, filter, slice_get}
use Rattle.daq_store.specs.Calls.{Profile, numbers_below}
use Rattle.daq_store.specs.declared.command.Command.{Command}
use Rattle.daq_store.specs.Replies.{calls_after_packet, replies}
use Rattle.daq_store.specs.Standing.{StoreState}
use Rattle.frame_writer.specs.Frame.{text}
use Rattle.frame_writer.specs.Shown.{OutState}
use Rattle.run_file.specs.RunFile.{RunData}
use Rattle.sampler.specs.Past.{Past}
use Rattle.transmitter.specs.Written.{TransmitterState}
use Rattle.daq_engine.specs.declared.report.Report.{Report}
use Rattle.daq_reader.specs.Frames.{Unread}
use Rattle.daq_reader.specs.Lists.{plans_of}
use Rattle.daq_reader.specs.Ready.{first_reading, plan_in, ready_lists, shows_ready}
use Rattle.daq_reader.specs.Recorded.{Recorded}
use Rattle.daq_reader.specs.Recording.{IsRecordingOf}
use Rattle.daq_run.specs.SetUps.{profile_of, replies_of}
use Rattle.recording.specs.Plans.{plans_in}
use Rattle.recording.specs.Runs.{IsRunReadBack}
use Rattle.recording.specs.declared.run_recording.RunRecording.{RunRecording}
use Rattle.recording.specs.Files.{IsFileWith, IsOfRun}
use Rattle.recording.specs.Pieces.{unread_with}
use Rattle.recording.specs.RunFiles.{IsFileOf}

plans_of-first : (s : StoreState) (ls : List ℕ) → plans_of (map (first_reading s) ls) ≡ map (plan_in s) ls
plans_of-first s [] = refl
plans_of-first s (l ∷ ls) = ap (λ ps. plan_in s l ∷ ps) (plans_of-first s ls)

-- a reader of the ready lists has the plans that a run is written of
plans-ready : (s : StoreState) → plans_of (ready_lists s) ≡ plans_in s
plans-ready s = plans_of-first s (filter (shows_ready s) (numbers_below (length s.lists)))

same_some : {A : Type 0} (x y : A) → Some x ≡ Some y → x ≡ y
same_some x y e = cc

pub is_file : (run : RunData) (before after : OutState) (report : Report) (past : ℕ → Past) (last : TransmitterState) (store : StoreState)
    → IsRunReadBack run before after report past last store → report.failed ≡ false → before.contents ≡ [] → IsFileOf run past store after.contents
is_file run before after report past last store back none fresh =
    let same = plans-ready store in
    let whole : back.whole ++ back.behind ≡ back.whole = ap (λ bs. back.whole ++ bs) (back.none_behind none) ∙ append-nil back.whole in
    record {
      samples = back.samples;
      behind = back.whole;
      begins = back.gained ∙ ap (λ bs. bs ++ (text 0 (replies_of run) ++ (back.whole ++ back.behind))) fresh ∙ ap (λ bs. text 0 (replies_of run) ++ bs) whole;
      is_recording = λ rest piece left unread is.
          let there : unread.0 ≡ left = same_some unread.0 left (sym unread.1 ∙ is) in
          subst (λ ps. IsRecordingOf ps back.samples [] (unread_with piece left)) (sym same)
          (subst (λ bs. IsRecordingOf (plans_in store) back.samples [] (unread_with piece bs)) there
          (subst (λ (a : Unread). IsRecordingOf (plans_in store) back.samples [] a) (sym unread.2) back.read.recording));
      first = λ i c k plan at. back.read.first i c k plan (subst (λ ps. slice_get ps i ≡ Some plan) same at);
      all = λ drains i c k plan at. back.all_given drains none i c k plan (subst (λ ps. slice_get ps i ≡ Some plan) same at);
    }

-- each packet has one reply
length-replies : (profile : Profile) (calls : List Command) (packets : List (List ℕ)) → length (replies profile calls packets) ≡ length packets
length-replies profile calls [] = refl
length-replies profile calls (packet ∷ more) = ap suc (length-replies profile (calls_after_packet profile calls packet) more)

pub is_whole_file : (run : RunData) (before after : OutState) (report : Report) (past : ℕ → Past) (last : TransmitterState) (recorded : RunRecording)
    → IsRunReadBack run before after report past last recorded.store.now → IsOfRun run recorded → report.failed ≡ false → before.contents ≡ []
    → (samples : List (ℕ × Recorded)) × IsFileWith recorded samples [] (Some after.contents)
unfolding is_file
is_whole_file run before after report past last recorded back of none fresh =
    let file = is_file run before after report past last recorded.store.now back none fresh in
    let plans = plans_of (ready_lists recorded.store.now) in
    let many : length (replies_of run) ≡ length recorded.run.now.setup = length-replies (profile_of run) [] run.setup ∙ ap (λ (r : RunData). length r.setup) (sym of.is) in
    let Is = λ (bs : List ℕ) (n : ℕ). IsRecordingOf plans back.samples [] (record { rest = bs; counter = n % 65536 }) in
    let read : Is back.whole (length (replies_of run)) = subst (λ ps. IsRecordingOf ps back.samples [] (record { rest = back.whole; counter = length (replies_of run) % 65536 })) (sym (plans-ready recorded.store.now)) back.read.recording in (
      back.samples,
      record {
        behind = back.whole;
        begins = ap Some (file.begins ∙ ap (λ bs. bs ++ back.whole) (sym of.replies));
        recording = subst (λ bs. Is bs (length recorded.run.now.setup)) (sym (append-nil back.whole)) (subst (λ n. Is back.whole n) many read);
      },
    )
