-- What is shown of a recording that was read to its end.
use Rattle.std.proofs.Common.{◌≡◌, ℕ, List, [], Option, Some, None, Result, Ok, Err, sym, ap, subst, ◌∙◌}
use Rattle.std.specs.Prelude.{IfOk, IfSome, IsOk, OnOk}
use Rattle.std.specs.Io.KnownBytes.{IsAtEnd}
use Rattle.copy_plan.specs.Config.{ListPlan}
use Rattle.daq_reader.specs.Lists.{NoneWaits, Stands, plans_of}
use Rattle.daq_reader.specs.Reading.{Reading}
use Rattle.daq_reader.specs.Recorded.{Recorded}
use Rattle.recording.specs.Pieces.{Passes, StandSomewhere}
use Rattle.recording.specs.Shown.{ShowsBy}
use Rattle.recording.specs.declared.piece.Piece.{Piece}

-- before the first packet
pub stand_first : (lists : List Reading) (samples : List (ℕ × Recorded)) → Stands lists [] [] → samples ≡ [] → StandSomewhere lists samples
stand_first lists samples h none = record { packets = []; stands = subst (λ gs. Stands lists [] gs) (sym none) h }

-- what holds where there is no fault
pub of_ok : {T E : Type 0} (result : Result T E) (P : Type 0) → IsOk result → OnOk result P → P
of_ok (Ok x) P ok h = h
of_ok (Err e) P ok h = absurd (cc (ok))

-- what is said of the writer that is given back
pub of_writer : {W E : Type 0} (result : Result (Option W) E) (P Q : W → Type 0) → ((w : W) → P w → Q w) → IfOk result (λ shown. IfSome shown P) → IfOk result (λ shown. IfSome shown Q)
of_writer (Ok (Some w)) P Q f h = f w h
of_writer (Ok None) P Q f h = tt
of_writer (Err e) P Q f h = tt

-- all was read, and so are its samples shown
pub all_by : (IsSo : List ListPlan → List (ℕ × Recorded) → Type 0) (lists first now : List Reading) (none samples : List (ℕ × Recorded)) (input rest : Option (List ℕ)) (piece last : Piece)
    → first ≡ lists → none ≡ [] → Passes first none now samples input rest piece last → plans_of now ≡ plans_of first
    → IsAtEnd rest → last.bytes.items ≡ [] → NoneWaits now → IsSo (plans_of lists) samples
    → ShowsBy IsSo lists input rest piece last
all_by IsSo lists first now none samples input rest piece last is empty read plans end all whole shown = record {
  now = now;
  samples = samples;
  read = subst (λ gs. Passes lists gs now samples input rest piece last) empty (subst (λ ls. Passes ls none now samples input rest piece last) is read);
  plans = plans ∙ ap plans_of is;
  end = end;
  all = all;
  whole = whole;
  shown = shown;
}

-- what is shown of the samples says another thing of them
pub shown_as : (IsSo IsThis : List ListPlan → List (ℕ × Recorded) → Type 0) (lists : List Reading) (input rest : Option (List ℕ)) (first last : Piece)
    → ((samples : List (ℕ × Recorded)) → IsSo (plans_of lists) samples → IsThis (plans_of lists) samples)
    → ShowsBy IsSo lists input rest first last → ShowsBy IsThis lists input rest first last
shown_as IsSo IsThis lists input rest first last f s = record {
  now = s.now;
  samples = s.samples;
  read = s.read;
  plans = s.plans;
  end = s.end;
  all = s.all;
  whole = s.whole;
  shown = f s.samples s.shown;
}

-- what is so of the lists and of what the writer had before a sheet was made, is so of these
pub of_start : (IsSo : List ListPlan → Option (List ℕ) → Type 0) (made : List ListPlan) (had : Option (List ℕ)) (shapes plans : List ListPlan) (before : Option (List ℕ))
    → made ≡ shapes → shapes ≡ plans → had ≡ before → IsSo made had → IsSo plans before
of_start IsSo made had shapes plans before is same start h = subst (IsSo plans) start (subst (λ ps. IsSo ps had) (is ∙ same) h)
