-- The session of a text, and the places of its faults.
use Rattle.std.proofs.Common.{◌≡◌, ℕ, Result, Ok, Err, ◌⊎◌, inl, inr, sym, ◌∙◌, subst}
use Rattle.std.specs.Result.{IsErrAnd}
use Rattle.session_file.specs.declared.file_fault.FileFault.{FileFault}
use Rattle.session_file.specs.declared.file_fault.FileFault.TheVariants.{BadEvent, BadLine, BadSegment, Memory}

-- a fault that is want of memory, or the first bad item at some place, is at the place that it names
abbrev pub IsFault : (ℕ → FileFault) → (ℕ → Type 0) → FileFault → Type 0
IsFault fault P e = (e ≡ Memory) ⊎ ((i : ℕ) × (e ≡ fault i) × P i)

pub segment_at : (P : ℕ → Type 0) (i : ℕ) (e : FileFault) → IsFault BadSegment P e → e ≡ BadSegment i → P i
segment_at P i e (inl memory) is = cc
segment_at P i e (inr found) is =
    let same : found.0 ≡ i = let both : BadSegment found.0 ≡ BadSegment i = sym found.1 ∙ is in cc in
    subst P same found.2

pub event_at : (P : ℕ → Type 0) (i : ℕ) (e : FileFault) → IsFault BadEvent P e → e ≡ BadEvent i → P i
event_at P i e (inl memory) is = cc
event_at P i e (inr found) is =
    let same : found.0 ≡ i = let both : BadEvent found.0 ≡ BadEvent i = sym found.1 ∙ is in cc in
    subst P same found.2

pub line_at : (P : ℕ → Type 0) (i : ℕ) (e : FileFault) → IsFault BadLine P e → e ≡ BadLine i → P i
line_at P i e (inl memory) is = cc
line_at P i e (inr found) is =
    let same : found.0 ≡ i = let both : BadLine found.0 ≡ BadLine i = sym found.1 ∙ is in cc in
    subst P same found.2

-- a fault that was handed on is the one that is answered
pub fault_is : {T : Type 0} (r : Result T FileFault) (e f : FileFault) → IsErrAnd r (λ x. x ≡ e) → r ≡ Err f → e ≡ f
fault_is (Ok t) e f handed is = cc
fault_is (Err x) e f handed is = let same : x ≡ f = cc in sym handed ∙ same
