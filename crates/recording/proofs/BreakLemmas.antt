-- Which faults are break-offs of a recording.
use Rattle.std.proofs.Common.{◌≡◌, ◌⊎◌, inl, inr, Result, Ok, Err}
use Rattle.std.specs.Prelude.{IsErrAnd, OnOk}
use Rattle.recording.specs.declared.break_off.BreakOff.{BreakOff}
use Rattle.recording.specs.declared.place.Place.{Place}
use Rattle.recording.specs.declared.reason.Reason.{Reason}
use Rattle.recording.specs.declared.recording_fault.RecordingFault.{RecordingFault}
use Rattle.recording.specs.declared.recording_fault.RecordingFault.TheVariants.{BreaksOff, Memory, Unreadable}
use Rattle.recording.specs.Faults.{breaks_off}

-- where and why a recording breaks off
pub broken_at : {T : Type 0} (place : Place) (why : Reason) (fault : RecordingFault) (at : BreakOff) → fault ≡ breaks_off place why
    → ◌≡◌ {A = Result T RecordingFault} (Err fault) (Err (BreaksOff at)) → at ≡ record { place = place; why = why }
broken_at place why fault at is told = cc

-- a fault of the input is no break-off
pub no_break : {T : Type 0} (result : Result T RecordingFault) (fault : RecordingFault) (at : BreakOff) → IsErrAnd result (λ f. f ≡ fault)
    → (fault ≡ Unreadable) ⊎ (fault ≡ Memory) → result ≡ Err (BreaksOff at) → ⊥
no_break (Ok x) fault at ends other is = absurd ends
no_break (Err f) fault at ends (inl unreadable) is = cc
no_break (Err f) fault at ends (inr memory) is = cc

-- of a result that is a fault nothing is promised
pub not_ok : {T F : Type 0} (result : Result T F) (fault : F) (P : Type 0) → IsErrAnd result (λ f. f ≡ fault) → OnOk result P
not_ok (Ok x) fault P ends = absurd ends
not_ok (Err f) fault P ends = tt
