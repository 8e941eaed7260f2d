-- A recording that is read on, piece by piece.
use Rattle.std.proofs.Common.{◌≡◌, ℕ, ◌+◌, ◌%◌, ◌^◌, List, [], ◌++◌, length, Option, Result, Ok, Err, refl, sym, ap, subst, ◌∙◌, arith, append_assoc, length-append}
use Rattle.std.proofs.KnownBytes.{Consumes-nil, Consumes-trans, starts_with_rest}
use Rattle.std.proofs.lemmas.List.{append-nil}
use Rattle.std.proofs.lemmas.List.Elements.{All-append}
use Rattle.std.specs.Prelude.{IsOk, OnOk}
use Rattle.std.specs.Io.{StartsWith, appended_bytes}
use Rattle.std.specs.Io.KnownBytes.{Consumes}
use Rattle.frame_writer.proofs.TextLemmas.{text-append, text-mod}
use Rattle.frame_writer.specs.Frame.{text}
use Rattle.frame_writer.specs.Split.{Fits}
use Rattle.daq_reader.proofs.ReadsLemmas.{nothing_read}
use Rattle.daq_reader.specs.Frames.{Unread}
use Rattle.daq_reader.specs.Lists.{Stands}
use Rattle.daq_reader.specs.Reading.{Reading}
use Rattle.daq_reader.specs.Reads.{HasRead}
use Rattle.daq_reader.specs.Recorded.{Recorded}
use Rattle.recording.specs.declared.piece.Piece.{Piece}
use Rattle.recording.specs.Pieces.{Passes, unread_at, unread_of}

-- bytes more at hand stand behind those that are left
pub with_more : (lists : List Reading) (qs : List (List ℕ)) (gs : List (ℕ × Recorded)) (a b : Unread) (more : List ℕ) → HasRead lists qs gs a b → HasRead lists qs gs (record a { rest = a.rest ++ more }) (record b { rest = b.rest ++ more })
with_more lists qs gs a b more h = record {
  read = h.read;
  legal = h.legal;
  bytes = ap (λ xs. xs ++ more) h.bytes ∙ append_assoc (text a.counter h.read) b.rest more;
  counter = h.counter;
  stands = h.stands;
}

-- frames, and then more frames
pub read_on : (old now : List Reading) (qs : List (List ℕ)) (gs hs : List (ℕ × Recorded)) (a b c : Unread) → HasRead old qs gs a b → ((ps : List (List ℕ)) → Stands old ps gs → HasRead now ps hs b c) → HasRead now qs hs a c
read_on old now qs gs hs a b c h step =
    let k = step (qs ++ h.read) h.stands in
    let at : text b.counter k.read ≡ text (a.counter + length h.read) k.read = text-mod b.counter (a.counter + length h.read) k.read h.counter in
    record {
      read = h.read ++ k.read;
      legal = All-append Fits h.read k.read h.legal k.legal;
      bytes = h.bytes
          ∙ ap (λ xs. text a.counter h.read ++ xs) (k.bytes ∙ ap (λ xs. xs ++ c.rest) at)
          ∙ sym (append_assoc (text a.counter h.read) (text (a.counter + length h.read) k.read) c.rest)
          ∙ ap (λ xs. xs ++ c.rest) (sym (text-append a.counter h.read k.read));
      counter = omega (arith, h.counter, k.counter, length-append h.read k.read);
      stands = subst (λ xs. Stands now xs hs) (append_assoc qs h.read k.read) k.stands;
    }

-- before anything is read
pub nothing_passed : (lists : List Reading) (gs : List (ℕ × Recorded)) (input : Option (List ℕ)) (piece : Piece) → Passes lists gs lists gs input input piece piece
nothing_passed lists gs input piece = λ qs h. record {
  taken = [];
  of_input = Consumes-nil input;
  read = subst (λ xs. HasRead lists qs gs (unread_at piece.place xs) (unread_of piece)) (sym (append-nil piece.bytes.items)) (nothing_read lists qs gs (unread_of piece) h);
  byte = ap (λ xs. (piece.place.byte + length xs) % 2 ^ 64) (append-nil piece.bytes.items);
}

-- frames are taken off the piece
pub frames_pass : (old lists now : List Reading) (start gs hs : List (ℕ × Recorded)) (input rest : Option (List ℕ)) (first before piece : Piece)
    → Passes old start lists gs input rest first before
    → ((ps : List (List ℕ)) → Stands lists ps gs → HasRead now ps hs (unread_of before) (unread_of piece))
    → (before.place.byte + length before.bytes.items) % 2 ^ 64 ≡ (piece.place.byte + length piece.bytes.items) % 2 ^ 64
    → Passes old start now hs input rest first piece
frames_pass old lists now start gs hs input rest first before piece passes step byte = λ qs h.
    let p = passes qs h in
    record {
      taken = p.taken;
      of_input = p.of_input;
      read = read_on lists now qs gs hs (unread_at first.place (first.bytes.items ++ p.taken)) (unread_of before) (unread_of piece) p.read step;
      byte = p.byte ∙ byte;
    }

-- bytes are put behind the piece
bytes_pass : (old now : List Reading) (start gs : List (ℕ × Recorded)) (input mid rest : Option (List ℕ)) (first before piece : Piece)
    → Passes old start now gs input mid first before
    → piece.place ≡ before.place → StartsWith piece.bytes.items before.bytes.items
    → Consumes mid rest (appended_bytes before.bytes.items piece.bytes.items)
    → Passes old start now gs input rest first piece
bytes_pass old now start gs input mid rest first before piece passes place starts consumes = λ qs h.
    let p = passes qs h in
    let more = appended_bytes before.bytes.items piece.bytes.items in
    let all : piece.bytes.items ≡ before.bytes.items ++ more = starts_with_rest piece.bytes.items before.bytes.items starts in
    let front : (first.bytes.items ++ p.taken) ++ more ≡ first.bytes.items ++ (p.taken ++ more) = append_assoc first.bytes.items p.taken more in
    let start = with_more now qs gs (unread_at first.place (first.bytes.items ++ p.taken)) (unread_of before) more p.read in
    let behind = subst (λ xs. HasRead now qs gs (unread_at first.place xs) (unread_at before.place (before.bytes.items ++ more))) front start in
    let held = subst (λ xs. HasRead now qs gs (unread_at first.place (first.bytes.items ++ (p.taken ++ more))) (unread_at before.place xs)) (sym all) behind in
    record {
      taken = p.taken ++ more;
      of_input = Consumes-trans input mid rest p.taken more p.of_input consumes;
      read = subst (λ x. HasRead now qs gs (unread_at first.place (first.bytes.items ++ (p.taken ++ more))) (unread_at x piece.bytes.items)) (sym place) held;
      byte = omega (arith, p.byte, ap length (sym front), length-append (first.bytes.items ++ p.taken) more, ap length all, length-append before.bytes.items more, ap (λ x. x.byte) place);
    }

-- frames are taken off the piece, and then bytes are put behind it
pub read_pass : (old lists now : List Reading) (start gs hs : List (ℕ × Recorded)) (input mid rest : Option (List ℕ)) (first before left piece : Piece)
    → Passes old start lists gs input mid first before
    → ((ps : List (List ℕ)) → Stands lists ps gs → HasRead now ps hs (unread_of before) (unread_of left))
    → (before.place.byte + length before.bytes.items) % 2 ^ 64 ≡ (left.place.byte + length left.bytes.items) % 2 ^ 64
    → piece.place ≡ left.place → StartsWith piece.bytes.items left.bytes.items
    → Consumes mid rest (appended_bytes left.bytes.items piece.bytes.items)
    → Passes old start now hs input rest first piece
read_pass old lists now start gs hs input mid rest first before left piece passes step byte place starts consumes =
    bytes_pass old now start hs input mid rest first left piece
    (frames_pass old lists now start gs hs input mid first before left passes step byte)
    place starts consumes

-- what holds, holds where there is no fault
pub where_ok : {T E : Type 0} (result : Result T E) (P : Type 0) → P → OnOk result P
where_ok (Ok x) P p = p
where_ok (Err e) P p = tt

pub when_ok : {T E : Type 0} (result : Result T E) (P : Type 0) → (IsOk result → P) → OnOk result P
when_ok (Ok x) P p = p refl
when_ok (Err e) P p = tt
