-- Why a recording is read no further.
use Rattle.std.proofs.Common.{◌≡◌, ◌⊎◌, inl, inr, ℕ, List, [], ◌++◌, Option, Some, Result, Ok, Err, refl, sym, ap, subst, ◌∙◌, append_assoc}
use Rattle.std.specs.Prelude.{IfErr, IsErrAnd, IsOk, OnOk}
use Rattle.std.specs.Io.KnownBytes.{Consumes, IsAtEnd}
use Rattle.daq_reader.specs.declared.frame_fault.FrameFault.TheVariants.{Jump, Torn}
use Rattle.daq_reader.specs.declared.read_fault.ReadFault.TheVariants.{Frame, Packet}
use Rattle.daq_reader.specs.Lists.{NoneWaits, Stands, plans_of}
use Rattle.daq_reader.specs.Reading.{Reading}
use Rattle.daq_reader.specs.Recorded.{Recorded}
use Rattle.recording.proofs.FrontLemmas.{rest_of}
use Rattle.recording.proofs.ShownLemmas.{all_by, of_ok}
use Rattle.recording.proofs.WithinLemmas.{IsLeft, no_reason, passed_within}
use Rattle.recording.specs.declared.break_off.BreakOff.{BreakOff}
use Rattle.recording.specs.declared.piece.Piece.{Piece}
use Rattle.recording.specs.declared.recording_fault.RecordingFault.{RecordingFault}
use Rattle.recording.specs.declared.recording_fault.RecordingFault.TheVariants.{BreaksOff, Memory, Unreadable}
use Rattle.recording.specs.declared.reason.Reason.{Reason}
use Rattle.recording.specs.declared.reason.Reason.TheVariants.{Read, WithinSample}
use Rattle.recording.specs.Faults.{torn}
use Rattle.recording.specs.Pieces.{HasPassed, IsReason, Passes, unread_of}
use Rattle.recording.specs.Shown.{IsRead}
use Rattle.recording.specs.Stops.{IsFaultOfSamples, IsFront, IsOfReading, IsOfStream, IsOfTear, IsWhole}

-- where it breaks off, it was read up to there, of the lists that were begun with
pub why_not : {T : Type 0} (lists first now : List Reading) (none samples : List (ℕ × Recorded)) (input rest : Option (List ℕ)) (piece last : Piece) (result : Result T RecordingFault)
    → first ≡ lists → none ≡ [] → Stands first [] [] → plans_of now ≡ plans_of first → IfErr result IsOfReading
    → ((at : BreakOff) → result ≡ Err (BreaksOff at) → Passes first none now samples input rest piece last)
    → ((at : BreakOff) → result ≡ Err (BreaksOff at) → at.place ≡ last.place)
    → ((at : BreakOff) → result ≡ Err (BreaksOff at) → IsReason now (unread_of last) rest at.why)
    → IfErr result (IsFaultOfSamples lists input rest piece last)
why_not lists first now none samples input rest piece last (Ok x) is empty stands plans of broken place why = tt
why_not lists first now none samples input rest piece last (Err (BreaksOff at)) is empty stands plans of broken place why = record {
  begins = subst (λ ls. Stands ls [] []) is stands;
  now = now;
  samples = samples;
  read = subst (λ gs. Passes lists gs now samples input rest piece last) empty (subst (λ ls. Passes ls none now samples input rest piece last) is (broken at refl));
  plans = plans ∙ ap plans_of is;
  place = place at refl;
  why = why at refl;
}
why_not lists first now none samples input rest piece last (Err Unreadable) is empty stands plans of broken place why = tt
why_not lists first now none samples input rest piece last (Err Memory) is empty stands plans of broken place why = tt
why_not lists first now none samples input rest piece last (Err fault) is empty stands plans of broken place why = absurd of

-- what is read to the end is, of the lists that were begun with
pub all_read : {T E : Type 0} (lists first now : List Reading) (none samples : List (ℕ × Recorded)) (input rest : Option (List ℕ)) (piece last : Piece) (result : Result T E)
    → first ≡ lists → none ≡ [] → OnOk result (Passes first none now samples input rest piece last) → plans_of now ≡ plans_of first
    → OnOk result (IsAtEnd rest) → OnOk result (last.bytes.items ≡ []) → OnOk result (NoneWaits now) → OnOk result (IsRead lists input rest piece last)
all_read lists first now none samples input rest piece last (Ok x) is empty read plans end all whole =
    all_by (λ plans samples. Unit {0}) lists first now none samples input rest piece last is empty read plans end all whole tt
all_read lists first now none samples input rest piece last (Err e) is empty read plans end all whole = tt

-- a fault of what was printed is that of reading, or lack of memory
pub its_fault : {T W F : Type 0} (outcome : Result T F) (result : Result W F) (P : F → Type 0) (memory : F) → P memory → IfErr outcome P → IfErr result (λ fault. (outcome ≡ Err fault) ⊎ (fault ≡ memory)) → IfErr result P
its_fault outcome (Ok w) P memory m h is = tt
its_fault outcome (Err fault) P memory m h (inl is) = subst (λ r. IfErr r P) is h
its_fault outcome (Err fault) P memory m h (inr is) = subst P (sym is) m

-- where nothing is one, all was read
pub its_end : {T W E : Type 0} (outcome : Result T E) (result : Result W E) (P : Type 0) → OnOk outcome P → OnOk result (IsOk outcome) → OnOk result P
its_end outcome (Ok w) P h ok = of_ok outcome P ok h
its_end outcome (Err e) P h ok = tt

-- a recording of whole samples doesn't break off
pub never_breaks : (lists : List Reading) (written : List (ℕ × Recorded)) (input rest : Option (List ℕ)) (first last : Piece) (fault : RecordingFault) → IsWhole lists written input first → IsFaultOfSamples lists input rest first last fault → IsOfStream fault
never_breaks lists written input rest first last (BreaksOff at) w b =
    let left = passed_within written lists b.now [] b.samples w.left input rest first last w.is w.recording (b.read [] b.begins) b.plans in
    absurd (no_reason written b.now b.samples rest last at.why left b.why)
never_breaks lists written input rest first last Unreadable w h = tt
never_breaks lists written input rest first last Memory w h = tt
never_breaks lists written input rest first last fault w h = absurd h

-- with what is lost, the same was read
with_lost : (now : List Reading) (gs : List (ℕ × Recorded)) (input rest : Option (List ℕ)) (first last : Piece) (left lost : List ℕ) → input ≡ Some left → HasPassed now [] gs input rest first last
    → (behind : List ℕ) × HasPassed now [] gs (Some (left ++ lost)) (Some (behind ++ lost)) first last
with_lost now gs input rest first last left lost is p =
    let more = rest_of left rest p.taken (subst (λ x. Consumes x rest p.taken) is p.of_input) in
    let consumed : left ++ lost ≡ p.taken ++ (more.0 ++ lost) = ap (λ xs. xs ++ lost) more.2 ∙ append_assoc p.taken more.0 lost in
    (more.0, record { taken = p.taken; of_input = consumed; read = p.read; byte = p.byte })

-- where bytes are lost, the others are read no further only at their end
at_tear : (written : List (ℕ × Recorded)) (lists : List Reading) (gs : List (ℕ × Recorded)) (all rest : Option (List ℕ)) (piece : Piece) (why : Reason) → IsLeft written lists gs all piece → IsReason lists (unread_of piece) rest why
    → IsAtEnd rest × ((why ≡ torn) ⊎ (why ≡ WithinSample))
at_tear written lists gs all rest piece (Read (Frame Torn)) left is = elim (is.1 refl) [
  | inl end ↦ (end, inl refl)
  | inr long ↦ absurd (no_reason written lists gs all piece (Read (Frame Torn)) left (is.0, λ e. inr long))
]
at_tear written lists gs all rest piece (Read (Frame Jump)) left is = absurd (no_reason written lists gs all piece (Read (Frame Jump)) left (is.0, λ e. absurd (cc (e))))
at_tear written lists gs all rest piece (Read (Packet fault)) left is = absurd (no_reason written lists gs all piece (Read (Packet fault)) left (is.0, λ e. absurd (cc (e))))
at_tear written lists gs all rest piece WithinSample left is = (is.1, inr refl)

-- the front of one breaks off at its end alone
pub tears_at_end : (lists : List Reading) (written : List (ℕ × Recorded)) (input rest : Option (List ℕ)) (first last : Piece) (fault : RecordingFault) → IsFront lists written input first → IsFaultOfSamples lists input rest first last fault → IsOfTear rest fault
tears_at_end lists written input rest first last (BreaksOff at) w b =
    let p = with_lost b.now b.samples input rest first last w.left w.lost w.is (b.read [] b.begins) in
    let left = passed_within written lists b.now [] b.samples (w.left ++ w.lost) (Some (w.left ++ w.lost)) (Some (p.0 ++ w.lost)) first last refl w.recording p.1 b.plans in
    at_tear written b.now b.samples (Some (p.0 ++ w.lost)) rest last at.why left b.why
tears_at_end lists written input rest first last Unreadable w h = tt
tears_at_end lists written input rest first last Memory w h = tt
tears_at_end lists written input rest first last fault w h = absurd h

-- what holds of each fault
pub each_fault : {T F : Type 0} (result : Result T F) (P Q : F → Type 0) → ((fault : F) → P fault → Q fault) → IfErr result P → IfErr result Q
each_fault (Ok x) P Q f h = tt
each_fault (Err fault) P Q f h = f fault h

-- and what holds of each end
pub each_end : {T F : Type 0} (result : Result T F) (P Q : Type 0) → (P → Q) → OnOk result P → OnOk result Q
each_end (Ok x) P Q f h = f h
each_end (Err fault) P Q f h = tt

-- of a result that has this fault
pub from_err : {T F : Type 0} (result : Result T F) (fault : F) (P : F → Type 0) → IsErrAnd result (λ f. f ≡ fault) → P fault → IfErr result P
from_err (Ok x) fault P is h = tt
from_err (Err f) fault P is h = subst P (sym is) h

-- a recording of whole samples doesn't break off, and the front of one at its end alone
pub whole_so : {T : Type 0} (lists : List Reading) (written : List (ℕ × Recorded)) (input rest : Option (List ℕ)) (first last : Piece) (result : Result T RecordingFault)
    → IsWhole lists written input first → IfErr result (IsFaultOfSamples lists input rest first last) → IfErr result IsOfStream
whole_so lists written input rest first last result w h = each_fault result _ _ (λ fault. never_breaks lists written input rest first last fault w) h

pub torn_so : {T : Type 0} (lists : List Reading) (written : List (ℕ × Recorded)) (input rest : Option (List ℕ)) (first last : Piece) (result : Result T RecordingFault)
    → IsFront lists written input first → IfErr result (IsFaultOfSamples lists input rest first last) → IfErr result (IsOfTear rest)
torn_so lists written input rest first last result w h = each_fault result _ _ (λ fault. tears_at_end lists written input rest first last fault w) h
