-- A file that has a recording behind the replies.
use Rattle.std.proofs.Common.{◌≡◌, ◌⊎◌, inl, inr, ℕ, ◌<◌, List, [], ◌++◌, length, map, Option, Some, None, Result, Ok, Err, refl, sym, ap, subst, ◌∙◌, arith, append_assoc, append-nil, length-append}
use Rattle.std.proofs.Transfers.{starts_with_of_append}
use Rattle.std.proofs.lemmas.List.{length-map}
use Rattle.std.specs.Option.{option_copied}
use Rattle.std.specs.Prelude.{IfErr, IfSome}
use Rattle.std.specs.Io.{StartsWith}
use Rattle.std.specs.Io.KnownBytes.{Consumes}
use Rattle.a2l.specs.declared.description.Description.{Description}
use Rattle.daq_reader.proofs.UniqueLemmas.{same_front}
use Rattle.daq_reader.specs.Lists.{plans_of}
use Rattle.daq_reader.specs.Reading.{Reading}
use Rattle.daq_reader.specs.Ready.{ready_lists}
use Rattle.daq_reader.specs.Recorded.{Recorded}
use Rattle.daq_reader.specs.Recording.{IsRecordingOf}
use Rattle.recording.proofs.FrontLemmas.{rest_of}
use Rattle.recording.proofs.StopLemmas.{never_breaks, tears_at_end}
use Rattle.recording.specs.ByName.{AreAsked, IsFaultOfValues, ShowsByName}
use Rattle.recording.specs.declared.view.View.{View}
use Rattle.recording.specs.declared.run_recording.RunRecording.{RunRecording}
use Rattle.recording.specs.declared.piece.Piece.{Piece}
use Rattle.recording.specs.declared.place.Place.{Place}
use Rattle.recording.specs.declared.recording_fault.RecordingFault.{RecordingFault}
use Rattle.recording.specs.declared.recording_fault.RecordingFault.TheVariants.{InReplies, Memory, NoValue, OtherRun, Unreadable}
use Rattle.recording.specs.declared.values.Values.{Values}
use Rattle.recording.specs.Files.{ArePassed, IsFaultBehind, IsFaultOfFile, IsFaultOfReplies, IsFileWith, IsNotOfRecording, IsOfTearOr, ShowsBehind}
use Rattle.recording.specs.Pieces.{unread_at, unread_with}
use Rattle.recording.specs.Stops.{IsFront, IsWhole}

-- behind the replies, the piece and the rest of the file are what is there
front_behind : (recorded : RunRecording) (written : List (ℕ × Recorded)) (lost : List ℕ) (input rest : Option (List ℕ)) (piece : Piece) → IsFileWith recorded written lost input → ArePassed recorded input rest piece
    → (left : List ℕ) × (rest ≡ Some left) × IsRecordingOf (plans_of (ready_lists recorded.store.now)) written [] (unread_with piece (left ++ lost))
front_behind recorded written lost input rest piece w p =
    let replies = recorded.replies.now in
    let more = rest_of (replies ++ w.behind) rest (replies ++ piece.bytes.items) (subst (λ x. Consumes x rest (replies ++ piece.bytes.items)) w.begins p.begins) in
    let all : replies ++ w.behind ≡ replies ++ (piece.bytes.items ++ more.0) = more.2 ∙ append_assoc replies piece.bytes.items more.0 in
    let same : w.behind ≡ piece.bytes.items ++ more.0 = (same_front replies replies w.behind (piece.bytes.items ++ more.0) refl all).1 in
    let bytes : w.behind ++ lost ≡ piece.bytes.items ++ (more.0 ++ lost) = ap (λ xs. xs ++ lost) same ∙ append_assoc piece.bytes.items more.0 lost in
    let plans = plans_of (ready_lists recorded.store.now) in
    let first : Place = record { byte = length replies; frame = length recorded.run.now.setup } in
    let at = subst (λ xs. IsRecordingOf plans written [] (unread_at first xs)) bytes w.recording in
    (more.0, more.1, subst (λ place. IsRecordingOf plans written [] (unread_at place (piece.bytes.items ++ (more.0 ++ lost)))) (sym p.place) at)

is_front : (recorded : RunRecording) (written : List (ℕ × Recorded)) (lost : List ℕ) (input rest : Option (List ℕ)) (piece : Piece) → IsFileWith recorded written lost input → ArePassed recorded input rest piece → IsFront (ready_lists recorded.store.now) written rest piece
is_front recorded written lost input rest piece w p =
    let f = front_behind recorded written lost input rest piece w p in
    record { left = f.0; lost = lost; is = f.1; recording = f.2 }

is_whole : (recorded : RunRecording) (written : List (ℕ × Recorded)) (input rest : Option (List ℕ)) (piece : Piece) → IsFileWith recorded written [] input → ArePassed recorded input rest piece → IsWhole (ready_lists recorded.store.now) written rest piece
is_whole recorded written input rest piece w p =
    let f = front_behind recorded written [] input rest piece w p in
    let plans = plans_of (ready_lists recorded.store.now) in
    record { left = f.0; is = f.1; recording = subst (λ xs. IsRecordingOf plans written [] (unread_with piece xs)) (append-nil f.0) f.2 }

-- it begins with the replies, and isn't shorter
begins : (recorded : RunRecording) (written : List (ℕ × Recorded)) (lost : List ℕ) (input : Option (List ℕ)) {P : Type 0} → IsFileWith recorded written lost input → IfSome input (λ bytes. ¬ StartsWith bytes recorded.replies.now) → P
begins recorded written lost input w other =
    let not = subst (λ x. IfSome x (λ bytes. ¬ StartsWith bytes recorded.replies.now)) w.begins other in
    absurd (not (starts_with_of_append (recorded.replies.now ++ w.behind) recorded.replies.now w.behind refl))

no_shorter : (recorded : RunRecording) (written : List (ℕ × Recorded)) (lost : List ℕ) (input : Option (List ℕ)) {P : Type 0} → IsFileWith recorded written lost input
    → IfSome input (λ bytes. StartsWith recorded.replies.now bytes × (length bytes < length recorded.replies.now)) → P
no_shorter recorded written lost input w shorter =
    let short = subst (λ x. IfSome x (λ bytes. StartsWith recorded.replies.now bytes × (length bytes < length recorded.replies.now))) w.begins shorter in
    absurd (omega (arith, short.1, length-append recorded.replies.now w.behind))

-- what stands behind the replies, if it is whole
behind_whole : (view : View) (d : Option Description) (lists : List Reading) (written : List (ℕ × Recorded)) (input rest : Option (List ℕ)) (first last : Piece) (fault : RecordingFault)
    → IsWhole lists written input first → IsFaultBehind view d lists input rest first last fault → IsNotOfRecording fault
behind_whole view d lists written input rest first last NoValue w h = tt
behind_whole view (Some d) lists written input rest first last fault w h = never_breaks lists written input rest first last fault w h.2
behind_whole view None lists written input rest first last fault w h = never_breaks lists written input rest first last fault w h

-- and if it is torn at its end
behind_torn : (view : View) (d : Option Description) (lists : List Reading) (written : List (ℕ × Recorded)) (input rest : Option (List ℕ)) (first last : Piece) (fault : RecordingFault)
    → IsFront lists written input first → IsFaultBehind view d lists input rest first last fault → IsOfTearOr rest fault
behind_torn view d lists written input rest first last NoValue w h = tt
behind_torn view (Some d) lists written input rest first last fault w h = tears_at_end lists written input rest first last fault w h.2
behind_torn view None lists written input rest first last fault w h = tears_at_end lists written input rest first last fault w h

-- of a file that is whole no fault is the recording's
pub whole_file : (view : View) (recorded : RunRecording) (written : List (ℕ × Recorded)) (input rest : Option (List ℕ)) (fault : RecordingFault)
    → IsFileWith recorded written [] input → IsFaultOfFile view recorded input rest fault → IsNotOfRecording fault
whole_file view recorded written input rest OtherRun w h = begins recorded written [] input w h
whole_file view recorded written input rest InReplies w h = no_shorter recorded written [] input w h
whole_file view recorded written input rest Unreadable w h = tt
whole_file view recorded written input rest Memory w h = tt
whole_file view recorded written input rest fault w h =
    behind_whole view _ _ written h.behind rest h.first h.last fault (is_whole recorded written input h.behind h.first w h.passed) h.is

-- and of one that is torn at its end, it breaks off there
pub torn_file : (view : View) (recorded : RunRecording) (written : List (ℕ × Recorded)) (lost : List ℕ) (input rest : Option (List ℕ)) (fault : RecordingFault)
    → IsFileWith recorded written lost input → IsFaultOfFile view recorded input rest fault → IsOfTearOr rest fault
torn_file view recorded written lost input rest OtherRun w h = begins recorded written lost input w h
torn_file view recorded written lost input rest InReplies w h = no_shorter recorded written lost input w h
torn_file view recorded written lost input rest Unreadable w h = tt
torn_file view recorded written lost input rest Memory w h = tt
torn_file view recorded written lost input rest fault w h =
    behind_torn view _ _ written h.behind rest h.first h.last fault (is_front recorded written lost input h.behind h.first w h.passed) h.is

-- a fault of the replies
pub of_replies : {T : Type 0} (recorded : RunRecording) (input : Option (List ℕ)) (result : Result T RecordingFault) (fault : RecordingFault)
    → result ≡ Err fault → IfErr result (λ f. (f ≡ OtherRun) ⊎ (f ≡ InReplies) ⊎ (f ≡ Unreadable) ⊎ (f ≡ Memory))
    → (result ≡ Err OtherRun → IfSome input (λ bytes. ¬ StartsWith bytes recorded.replies.now))
    → (result ≡ Err InReplies → IfSome input (λ bytes. StartsWith recorded.replies.now bytes × (length bytes < length recorded.replies.now)))
    → IsFaultOfReplies recorded input fault
of_replies recorded input result fault is one other within =
    let IsSo = λ (f : RecordingFault). IsFaultOfReplies recorded input f in
    elim (subst (λ r. IfErr r (λ f. (f ≡ OtherRun) ⊎ (f ≡ InReplies) ⊎ (f ≡ Unreadable) ⊎ (f ≡ Memory))) is one) [
      | inl e ↦ subst IsSo (sym e) (other (is ∙ ap Err e))
      | inr (inl e) ↦ subst IsSo (sym e) (within (is ∙ ap Err e))
      | inr (inr (inl e)) ↦ subst IsSo (sym e) tt
      | inr (inr (inr e)) ↦ subst IsSo (sym e) tt
    ]

-- is one of the file
pub as_of_file : (view : View) (recorded : RunRecording) (input rest : Option (List ℕ)) (fault : RecordingFault) → IsFaultOfReplies recorded input fault → IsFaultOfFile view recorded input rest fault
as_of_file view recorded input rest OtherRun h = h
as_of_file view recorded input rest InReplies h = h
as_of_file view recorded input rest Unreadable h = tt
as_of_file view recorded input rest Memory h = tt
as_of_file view recorded input rest fault h = absurd h

-- no fault behind the replies is one of them
no_replies : (view : View) (d : Option Description) (lists : List Reading) (input rest : Option (List ℕ)) (first last : Piece) → IsFaultBehind view d lists input rest first last OtherRun → ⊥
no_replies view (Some d) lists input rest first last h = h.2
no_replies view None lists input rest first last h = h

no_front : (view : View) (d : Option Description) (lists : List Reading) (input rest : Option (List ℕ)) (first last : Piece) → IsFaultBehind view d lists input rest first last InReplies → ⊥
no_front view (Some d) lists input rest first last h = h.2
no_front view None lists input rest first last h = h

-- what is said behind the replies is said of the file
pub passed_fault : {T : Type 0} (view : View) (recorded : RunRecording) (input behind rest : Option (List ℕ)) (first last : Piece) (result : Result T RecordingFault)
    → ArePassed recorded input behind first → IfErr result (IsFaultBehind view (option_copied recorded.description) (ready_lists recorded.store.now) behind rest first last)
    → IfErr result (IsFaultOfFile view recorded input rest)
passed_fault view recorded input behind rest first last (Ok x) passed h = tt
passed_fault view recorded input behind rest first last (Err OtherRun) passed h = absurd (no_replies view (option_copied recorded.description) (ready_lists recorded.store.now) behind rest first last h)
passed_fault view recorded input behind rest first last (Err InReplies) passed h = absurd (no_front view (option_copied recorded.description) (ready_lists recorded.store.now) behind rest first last h)
passed_fault view recorded input behind rest first last (Err Unreadable) passed h = tt
passed_fault view recorded input behind rest first last (Err Memory) passed h = tt
passed_fault view recorded input behind rest first last (Err fault) passed h = record { behind = behind; first = first; last = last; passed = passed; is = h }

-- what is shown by name, of what is asked for
pub named_behind : (view : View) (d : Option Description) (description : Description) (values : Values) (lists : List Reading) (input rest : Option (List ℕ)) (first last : Piece) (before after : Option (List ℕ))
    → d ≡ Some description → AreAsked view description values → ShowsByName values lists input rest first last before after → ShowsBehind view d lists input rest first last before after
named_behind view d description values lists input rest first last before after is asked h =
    subst (λ o. ShowsBehind view o lists input rest first last before after) (sym is) (values, asked, h)

pub named_fault : (view : View) (d : Option Description) (description : Description) (values : Values) (lists : List Reading) (input rest : Option (List ℕ)) (first last : Piece) (fault : RecordingFault)
    → d ≡ Some description → AreAsked view description values → IsFaultOfValues values lists input rest first last fault → IsFaultBehind view d lists input rest first last fault
named_fault view d description values lists input rest first last fault is asked h =
    subst (λ o. IsFaultBehind view o lists input rest first last fault) (sym is) (values, asked, h)

-- as many frames were passed as the set-up has packets
pub passed_of : {A : Type 0} (recorded : RunRecording) (input rest : Option (List ℕ)) (piece : Piece) (f : A → List ℕ) (packets : List A) → map f packets ≡ recorded.run.now.setup
    → Consumes input rest (recorded.replies.now ++ piece.bytes.items) → piece.place ≡ record { byte = length recorded.replies.now; frame = length packets } → ArePassed recorded input rest piece
passed_of recorded input rest piece f packets are begins place =
    let Is = λ (n : ℕ). (piece.place ≡ record { byte = length recorded.replies.now; frame = n }) in
    let many : length packets ≡ length recorded.run.now.setup = sym (length-map packets f) ∙ ap length are in
    record { begins = begins; place = subst Is many place }
