-- A recording of whole samples, read frame by frame.
use Rattle.std.proofs.Common.{◌≡◌, ℕ, zero, suc, ◌+◌, ◌/◌, ◌%◌, ◌<◌, Bool, true, false, List, [], ◌∷◌, ◌++◌, length, refl, sym, ap, ◌∙◌, arith, append_assoc, Some, None, Err, Ok}
use Rattle.std.specs.Prelude.{All, IsOk, Result, option_map, slice_get}
use Rattle.std.proofs.lemmas.List.{append-nil, length-map}
use Rattle.std.proofs.lemmas.List.Elements.{All-head, All-tail}
use Rattle.std.proofs.lemmas.Option.{slice_get-map}
use Rattle.frame_writer.specs.Frame.{frame, text, two_bytes}
use Rattle.frame_writer.specs.Split.{Fits}
use Rattle.daq_reader.specs.declared.read_fault.ReadFault.{ReadFault}
use Rattle.daq_reader.specs.Frames.{IsNext, Unread}
use Rattle.daq_reader.specs.Lists.{Stands, given, of_place, place_in, plans_of, refusal}
use Rattle.daq_reader.specs.Reading.{Reading}
use Rattle.daq_reader.specs.Recorded.{Recorded}
use Rattle.daq_reader.specs.Recording.{AreGivenBack, AreSampled, IsRecordingOf}
use Rattle.daq_reader.proofs.GivenLemmas.{samples_are_given_back, samples_are_taken}
use Rattle.daq_reader.proofs.UniqueLemmas.{same_front}

-- how far a reader has come in a recording: it stands after some packets, and what is left is a
-- recording behind these
pub record IsWithin (written : List (ℕ × Recorded)) (lists : List Reading) (handed : List (ℕ × Recorded)) (a : Unread) : Type 0 where
  pub before : List (List ℕ)
  pub stands : Stands lists before handed
  pub left : IsRecordingOf (plans_of lists) written before a

-- two bytes tell a number below 65536
pub same_number : (m n : ℕ) → m < 65536 → n < 65536 → m % 256 ≡ n % 256 → m / 256 % 256 ≡ n / 256 % 256 → m ≡ n
same_number m n hm hn low high = omega arith

-- bytes begin with at most one frame
pub one_frame : (n : ℕ) (p q xs ys : List ℕ) → length p < 65536 → length q < 65536 → frame n p ++ xs ≡ frame n q ++ ys → (p ≡ q) × (xs ≡ ys)
one_frame n p q xs ys hp hq e =
    let low : length p % 256 ≡ length q % 256 = cc in
    let high : length p / 256 % 256 ≡ length q / 256 % 256 = cc in
    let bodies : p ++ xs ≡ q ++ ys = cc in
    same_front p q xs ys (same_number (length p) (length q) hp hq low high) bodies

-- frames of counters that are the same modulo 65536
same_text : (m n : ℕ) (qs : List (List ℕ)) → m % 65536 ≡ n % 65536 → text m qs ≡ text n qs
same_text m n [] h = refl
same_text m n (q ∷ qs) h =
    ap (λ k. ((two_bytes (length q) ++ two_bytes k) ++ q) ++ text (m + 1) qs) h
    ∙ ap (λ xs. frame n q ++ xs) (same_text (m + 1) (n + 1) qs (omega (arith, h)))

-- what is left has no packet only where it is nothing
none_left : (n : ℕ) (qs : List (List ℕ)) → [] ≡ text n qs → qs ≡ []
none_left n [] e = refl
none_left n (q ∷ qs) e = absurd (cc)

plan_at : (lists : List Reading) (i : ℕ) (a : Reading) → slice_get lists i ≡ Some a → slice_get (plans_of lists) i ≡ Some a.plan
plan_at lists i a at = slice_get-map (λ (x : Reading). x.plan) lists i ∙ ap (option_map (λ (x : Reading). x.plan)) at

-- the reader of a list at a place
record IsAt (lists : List Reading) (i : ℕ) : Type 0 where
  list : Reading
  at : slice_get lists i ≡ Some list

some_at : (lists : List Reading) (i : ℕ) → i < length lists → IsAt lists i
some_at [] i h = absurd (omega (arith, h))
some_at (x ∷ xs) zero h = record { list = x; at = refl }
some_at (x ∷ xs) (suc i) h = let more = some_at xs i (omega (arith, h)) in record { list = more.list; at = more.at }

-- what holds of each of two lists' elements holds of the second's
behind : (P : List ℕ → Type 0) (xs ys : List (List ℕ)) → All P (xs ++ ys) → All P ys
behind P [] ys h = h
behind P (x ∷ xs) ys h = behind P xs ys (All-tail P x (xs ++ ys) h)

-- the next packet is not refused
pub next_taken : (lists : List Reading) (before qs : List (List ℕ)) (q : List ℕ) (written handed : List (ℕ × Recorded)) → Stands lists before handed → AreSampled (plans_of lists) written (before ++ q ∷ qs) → refusal lists q ≡ None
next_taken lists before qs q written handed h are =
    let i : ℕ = place_in (plans_of lists) q in
    let known : i < length (plans_of lists) = All-head (λ (p : List ℕ). place_in (plans_of lists) p < length (plans_of lists)) q qs (behind (λ (p : List ℕ). place_in (plans_of lists) p < length (plans_of lists)) before (q ∷ qs) are.known) in
    let size : length (plans_of lists) ≡ length lists = length-map lists (λ (x : Reading). x.plan) in
    let here : IsAt lists i = some_at lists i (omega (arith, known, size)) in
    let whole = are.each i here.list.plan (plan_at lists i here.list here.at) in
    samples_are_taken lists before qs q handed here.list (given i written) h here.at whole.legal whole.each whole.packets

goes_on_with : (written : List (ℕ × Recorded)) (lists : List Reading) (handed : List (ℕ × Recorded)) (a : Unread) (result : Result Bool ReadFault) (before ps : List (List ℕ)) → Stands lists before handed → All Fits ps → a.rest ≡ text a.counter ps → AreSampled (plans_of lists) written (before ++ ps) → (a.rest ≡ [] → result ≡ Ok false) → ((q behind : List ℕ) → Fits q → a.rest ≡ frame a.counter q ++ behind → refusal lists q ≡ None → result ≡ Ok true) → IsOk result
goes_on_with written lists handed a result before [] h legal bytes are end takes = rw (end bytes) refl
goes_on_with written lists handed a result before (q ∷ qs) h legal bytes are end takes =
    rw (takes q (text (a.counter + 1) qs) (All-head Fits q qs legal) bytes (next_taken lists before qs q written handed h are)) refl

-- the next frame of a recording, if there is one, is read
pub goes_on : (written : List (ℕ × Recorded)) (lists : List Reading) (handed : List (ℕ × Recorded)) (a : Unread) (result : Result Bool ReadFault) → IsWithin written lists handed a → (a.rest ≡ [] → result ≡ Ok false) → ((q behind : List ℕ) → Fits q → a.rest ≡ frame a.counter q ++ behind → refusal lists q ≡ None → result ≡ Ok true) → IsOk result
goes_on written lists handed a result w end takes =
    goes_on_with written lists handed a result w.before w.left.packets w.stands w.left.legal w.left.bytes w.left.are end takes

pub not_failed : (result : Result Bool ReadFault) (fault : ReadFault) → IsOk result → result ≡ Err fault → ⊥
not_failed (Ok more) fault ok e = absurd (cc (e))
not_failed (Err other) fault ok e = absurd (cc (ok))

one_within_with : (written : List (ℕ × Recorded)) (old now : List Reading) (gs hs : List (ℕ × Recorded)) (a b : Unread) (p : List ℕ) (before ps : List (List ℕ)) → Stands old before gs → All Fits ps → a.rest ≡ text a.counter ps → AreSampled (plans_of old) written (before ++ ps) → IsNext a b p → plans_of now ≡ plans_of old → ((rs : List (List ℕ)) → Stands old rs gs → Stands now (rs ++ p ∷ []) hs) → IsWithin written now hs b
one_within_with written old now gs hs a b p before [] h legal bytes are n same step = absurd (cc (n.bytes, bytes))
one_within_with written old now gs hs a b p before (q ∷ qs) h legal bytes are n same step =
    let fits : Fits q = All-head Fits q qs legal in
    let one = one_frame a.counter p q b.rest (text (a.counter + 1) qs) (omega (arith, n.legal.fits)) (omega (arith, fits.1)) (sym n.bytes ∙ bytes) in
    record {
      before = before ++ p ∷ [];
      stands = step before h;
      left = record {
        packets = qs;
        legal = All-tail Fits q qs legal;
        bytes = one.1 ∙ same_text (a.counter + 1) b.counter qs (omega (arith, n.counter));
        are = rw (same, append_assoc before (p ∷ []) qs, one.0) are;
      };
    }

-- one frame more of it was read
pub one_within : (written : List (ℕ × Recorded)) (old now : List Reading) (gs hs : List (ℕ × Recorded)) (a b : Unread) (p : List ℕ) → IsWithin written old gs a → IsNext a b p → plans_of now ≡ plans_of old → ((rs : List (List ℕ)) → Stands old rs gs → Stands now (rs ++ p ∷ []) hs) → IsWithin written now hs b
one_within written old now gs hs a b p w n same step =
    one_within_with written old now gs hs a b p w.before w.left.packets w.stands w.left.legal w.left.bytes w.left.are n same step

-- where nothing is left, all samples were given back
pub all_given : (written : List (ℕ × Recorded)) (lists : List Reading) (gs : List (ℕ × Recorded)) (a : Unread) → IsWithin written lists gs a → a.rest ≡ [] → AreGivenBack lists written gs
all_given written lists gs a w end = λ i r at.
    let none : w.left.packets ≡ [] = none_left a.counter w.left.packets (sym end ∙ w.left.bytes) in
    let read : w.before ++ w.left.packets ≡ w.before = ap (λ ps. w.before ++ ps) none ∙ append-nil w.before in
    let whole = w.left.are.each i r.plan (plan_at lists i r at) in
    samples_are_given_back lists w.before gs i r (given i written) w.stands at whole.legal whole.each (ap (of_place (plans_of lists) i) (sym read) ∙ whole.packets)
