-- A recording of whole samples that is read on, piece by piece.
use Rattle.std.proofs.Common.{◌≡◌, ◌≢◌, ℕ, ◌+◌, ◌%◌, ◌/◌, ◌<◌, ◌≤◌, ◌⊎◌, inl, inr, List, [], ◌∷◌, ◌++◌, length, drop, Option, Some, refl, sym, ap, subst, ◌∙◌, arith, append_assoc}
use Rattle.std.proofs.lemmas.List.{append-nil}
use Rattle.std.proofs.lemmas.List.Elements.{All-from_recursion, All-head, All-tail}
use Rattle.std.specs.Prelude.{All}
use Rattle.std.specs.Io.KnownBytes.{Consumes, IsAtEnd}
use Rattle.frame_writer.proofs.TextLemmas.{text-mod}
use Rattle.frame_writer.specs.Frame.{frame, text}
use Rattle.frame_writer.specs.Split.{Fits}
use Rattle.daq_engine.proofs.PidLemmas.{all-indexed}
use Rattle.daq_reader.proofs.RecordingLemmas.{IsWithin, all_given, next_taken, one_frame, same_number}
use Rattle.daq_reader.specs.declared.frame_fault.FrameFault.TheVariants.{Jump, Torn}
use Rattle.daq_reader.specs.declared.packet_fault.PacketFault.{PacketFault}
use Rattle.daq_reader.specs.declared.read_fault.ReadFault.TheVariants.{Frame, Packet}
use Rattle.daq_reader.specs.Frames.{HasFrame, IsNext, Unread}
use Rattle.daq_reader.specs.Lists.{Stands, plans_of, refusal}
use Rattle.daq_reader.specs.Reading.{Reading, under_way}
use Rattle.daq_reader.specs.Reads.{HasRead}
use Rattle.daq_reader.specs.Recorded.{Recorded}
use Rattle.daq_reader.specs.Recording.{AreGivenBack, AreSampled, IsRecordingOf}
use Rattle.recording.specs.declared.piece.Piece.{Piece}
use Rattle.recording.specs.declared.reason.Reason.{Reason}
use Rattle.recording.specs.declared.reason.Reason.TheVariants.{Read, WithinSample}
use Rattle.recording.proofs.FrontLemmas.{in_front, rest_of}
use Rattle.recording.specs.Pieces.{HasPassed, IsReason, unread_at, unread_of, unread_with}

-- bytes more behind those that are to be read
abbrev followed : Unread → List ℕ → Unread
followed a left = record a { rest = a.rest ++ left }

-- of packets some were read, and what is left are the frames of the others
record IsBehind (n : ℕ) (read packets : List (List ℕ)) (rest : List ℕ) : Type 0 where
  more : List (List ℕ)
  all : packets ≡ read ++ more
  left : rest ≡ text (n + length read) more
  legal : All Fits more

is_behind : (n : ℕ) (read packets : List (List ℕ)) (rest : List ℕ) → All Fits read → All Fits packets → text n read ++ rest ≡ text n packets → IsBehind n read packets rest
is_behind n [] packets rest hr hp e = record {
  more = packets;
  all = refl;
  left = e ∙ ap (λ k. text k packets) (omega arith);
  legal = hp;
}
is_behind n (q ∷ read) [] rest hr hp e = absurd (cc)
is_behind n (q ∷ read) (p ∷ packets) rest hr hp e =
    let hq = All-head Fits q read hr in
    let hh = All-head Fits p packets hp in
    let one = one_frame n q p (text (n + 1) read ++ rest) (text (n + 1) packets) (omega (arith, hq.1)) (omega (arith, hh.1)) (sym (append_assoc (frame n q) (text (n + 1) read) rest) ∙ e) in
    let tail = is_behind (n + 1) read packets rest (All-tail Fits q read hr) (All-tail Fits p packets hp) one.1 in
    record {
      more = tail.more;
      all = ap (λ x. x ∷ packets) (sym one.0) ∙ ap (λ xs. q ∷ xs) tail.all;
      left = tail.left ∙ ap (λ k. text k tail.more) (omega arith);
      legal = tail.legal;
    }

-- behind frames that were read of a recording, what is left is one
read_within : (written : List (ℕ × Recorded)) (old now : List Reading) (before : List (List ℕ)) (gs : List (ℕ × Recorded)) (a b : Unread) (left : List ℕ)
    → IsRecordingOf (plans_of old) written before (followed a left) → HasRead now before gs a b → plans_of now ≡ plans_of old → IsWithin written now gs (followed b left)
read_within written old now before gs a b left is h same =
    let bytes : text a.counter h.read ++ (b.rest ++ left) ≡ text a.counter is.packets = sym (append_assoc (text a.counter h.read) b.rest left) ∙ ap (λ xs. xs ++ left) (sym h.bytes) ∙ is.bytes in
    let behind = is_behind a.counter h.read is.packets (b.rest ++ left) h.legal is.legal bytes in
    let order : before ++ is.packets ≡ (before ++ h.read) ++ behind.more = ap (λ qs. before ++ qs) behind.all ∙ sym (append_assoc before h.read behind.more) in
    record {
      before = before ++ h.read;
      stands = h.stands;
      left = record {
        packets = behind.more;
        legal = behind.legal;
        bytes = behind.left ∙ text-mod (a.counter + length h.read) b.counter behind.more (sym h.counter);
        are = subst (λ plans. AreSampled plans written ((before ++ h.read) ++ behind.more)) (sym same) (subst (λ qs. AreSampled (plans_of old) written qs) order is.are);
      };
    }

-- of a recording, some of which was read, the bytes of a piece and those that are left of the input
-- behind them are one
pub record IsLeft (written : List (ℕ × Recorded)) (lists : List Reading) (gs : List (ℕ × Recorded)) (rest : Option (List ℕ)) (piece : Piece) : Type 0 where
  pub behind : List ℕ
  pub is : rest ≡ Some behind
  pub within : IsWithin written lists gs (unread_with piece behind)

pub passed_within : (written : List (ℕ × Recorded)) (old now : List Reading) (before : List (List ℕ)) (gs : List (ℕ × Recorded)) (left : List ℕ) (input rest : Option (List ℕ)) (first piece : Piece)
    → input ≡ Some left → IsRecordingOf (plans_of old) written before (unread_with first left) → HasPassed now before gs input rest first piece → plans_of now ≡ plans_of old → IsLeft written now gs rest piece
passed_within written old now before gs left input rest first piece all is p same =
    let behind = rest_of left rest p.taken (subst (λ x. Consumes x rest p.taken) all p.of_input) in
    let bytes : first.bytes.items ++ left ≡ (first.bytes.items ++ p.taken) ++ behind.0 = ap (λ xs. first.bytes.items ++ xs) behind.2 ∙ sym (append_assoc first.bytes.items p.taken behind.0) in
    record {
      behind = behind.0;
      is = behind.1;
      within = read_within written old now before gs (unread_at first.place (first.bytes.items ++ p.taken)) (unread_of piece) behind.0 (subst (λ xs. IsRecordingOf (plans_of old) written before (unread_at first.place xs)) bytes is) p.read same;
    }

front_none : (xs ys : List ℕ) → xs ++ ys ≡ [] → xs ≡ []
front_none [] ys e = refl
front_none (x ∷ xs) ys e = absurd (cc)

-- bytes that begin a recording, and have no whole frame, are the front of a frame behind which more
-- is left
not_torn : (a : Unread) (left : List ℕ) (ps : List (List ℕ)) → a.counter < 65536 → All Fits ps → a.rest ++ left ≡ text a.counter ps
    → a.rest ≢ [] → ((n : ℕ) → HasFrame a n → ⊥) → (left ≡ []) ⊎ (65539 ≤ length a.rest) → ⊥
not_torn a left [] small legal e some none at = some (front_none a.rest left e)
not_torn a left (p ∷ ps) small legal e some none (inl end) =
    let fits = All-head Fits p ps legal in
    none a.counter (record {
      packet = p;
      behind = text (a.counter + 1) ps;
      legal = record { counter = small; some = fits.0; fits = fits.1 };
      bytes = sym (append-nil a.rest) ∙ ap (λ xs. a.rest ++ xs) (sym end) ∙ e;
    })
not_torn a left (p ∷ ps) small legal e some none (inr long) =
    let fits = All-head Fits p ps legal in
    none a.counter (record {
      packet = p;
      behind = drop (length (frame a.counter p)) a.rest;
      legal = record { counter = small; some = fits.0; fits = fits.1 };
      bytes = in_front a.rest left (frame a.counter p) (text (a.counter + 1) ps) e (omega (arith, long, fits.1));
    })

-- they don't begin with a frame of another counter
not_jump : (a : Unread) (left : List ℕ) (ps : List (List ℕ)) (n : ℕ) → a.counter < 65536 → a.rest ++ left ≡ text a.counter ps → n ≢ a.counter → HasFrame a n → ⊥
not_jump a left [] n small e other f = absurd (cc (f.bytes, e))
not_jump a left (p ∷ ps) n small e other f =
    let all : (frame n f.packet ++ f.behind) ++ left ≡ frame a.counter p ++ text (a.counter + 1) ps = ap (λ xs. xs ++ left) (sym f.bytes) ∙ e in
    let low : n % 65536 % 256 ≡ a.counter % 65536 % 256 = cc in
    let high : n % 65536 / 256 % 256 ≡ a.counter % 65536 / 256 % 256 = cc in
    let short : n < 65536 = f.legal.counter in
    other (same_number n a.counter short small (omega (arith, low, short, small)) (omega (arith, high, short, small)))

-- they don't begin with a packet that is refused
not_refused : (written : List (ℕ × Recorded)) (lists : List Reading) (gs : List (ℕ × Recorded)) (a b : Unread) (left : List ℕ) (before ps : List (List ℕ)) (q : List ℕ) (fault : PacketFault)
    → Stands lists before gs → All Fits ps → a.rest ++ left ≡ text a.counter ps → AreSampled (plans_of lists) written (before ++ ps) → IsNext a b q → refusal lists q ≡ Some fault → ⊥
not_refused written lists gs a b left before [] q fault h legal e are next refused = absurd (cc (next.bytes, e))
not_refused written lists gs a b left before (p ∷ ps) q fault h legal e are next refused =
    let fits = All-head Fits p ps legal in
    let all : frame a.counter q ++ (b.rest ++ left) ≡ frame a.counter p ++ text (a.counter + 1) ps = sym (append_assoc (frame a.counter q) b.rest left) ∙ ap (λ xs. xs ++ left) (sym next.bytes) ∙ e in
    let one = one_frame a.counter q p (b.rest ++ left) (text (a.counter + 1) ps) (omega (arith, next.legal.fits)) (omega (arith, fits.1)) all in
    let taken = next_taken lists before ps p written gs h are in
    absurd (cc (taken, refused, one.0))

counter_short : (frame : ℕ) → frame % 65536 < 65536
counter_short frame = omega arith

at_end : (rest : Option (List ℕ)) (behind : List ℕ) → rest ≡ Some behind → IsAtEnd rest → behind ≡ []
at_end rest behind is end = subst IsAtEnd is end

torn_or : (rest : Option (List ℕ)) (behind xs : List ℕ) → rest ≡ Some behind → IsAtEnd rest ⊎ (65539 ≤ length xs) → (behind ≡ []) ⊎ (65539 ≤ length xs)
torn_or rest behind xs is (inl end) = inl (at_end rest behind is end)
torn_or rest behind xs is (inr long) = inr long

-- where nothing is left, all samples are given back
pub given_at_end : (written : List (ℕ × Recorded)) (lists : List Reading) (gs : List (ℕ × Recorded)) (rest : Option (List ℕ)) (piece : Piece) → IsLeft written lists gs rest piece → piece.bytes.items ≡ [] → IsAtEnd rest → AreGivenBack lists written gs
given_at_end written lists gs rest piece left none end =
    all_given written lists gs (unread_with piece left.behind) left.within (ap (λ xs. xs ++ left.behind) none ∙ at_end rest left.behind left.is end)

-- there is no reason to read a recording of whole samples no further
pub no_reason : (written : List (ℕ × Recorded)) (lists : List Reading) (gs : List (ℕ × Recorded)) (rest : Option (List ℕ)) (piece : Piece) (why : Reason) → IsLeft written lists gs rest piece → IsReason lists (unread_of piece) rest why → ⊥
no_reason written lists gs rest piece (Read (Frame Torn)) left is =
    not_torn (unread_of piece) left.behind left.within.left.packets (counter_short piece.place.frame) left.within.left.legal left.within.left.bytes is.0.0 is.0.1 (torn_or rest left.behind piece.bytes.items left.is (is.1 refl))
no_reason written lists gs rest piece (Read (Frame Jump)) left is =
    not_jump (unread_of piece) left.behind left.within.left.packets is.0.0 (counter_short piece.place.frame) left.within.left.bytes is.0.1 is.0.2
no_reason written lists gs rest piece (Read (Packet fault)) left is =
    let w = left.within in
    not_refused written lists gs (unread_of piece) is.0.1 left.behind w.before w.left.packets is.0.0 fault w.stands w.left.legal w.left.bytes w.left.are is.0.2 is.0.3
no_reason written lists gs rest piece WithinSample left is =
    let given = given_at_end written lists gs rest piece left is.0 is.1 in
    is.2 (All-from_recursion (λ (a : Reading). under_way a ≡ []) lists (all-indexed (λ (a : Reading). under_way a ≡ []) lists (λ i a at. (given i a at).1)))
