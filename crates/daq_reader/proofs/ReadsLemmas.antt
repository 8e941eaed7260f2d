-- One frame more of a recording.
use Rattle.std.proofs.Common.{◌≡◌, ℕ, ◌+◌, ◌%◌, ◌<◌, List, [], ◌∷◌, ◌++◌, length, refl, sym, ap, subst, ◌∙◌, arith, append_assoc, length-append}
use Rattle.std.proofs.lemmas.List.{append-nil}
use Rattle.std.proofs.lemmas.List.Elements.{All-append, All-cons, All-nil}
use Rattle.frame_writer.specs.Frame.{frame, text, two_bytes}
use Rattle.frame_writer.specs.Split.{Fits}
use Rattle.daq_reader.specs.Frames.{IsNext, Unread}
use Rattle.daq_reader.specs.Lists.{Stands}
use Rattle.daq_reader.specs.Reading.{Reading}
use Rattle.daq_reader.specs.Reads.{HasRead}
use Rattle.daq_reader.specs.Recorded.{Recorded}

pub nothing_read : (lists : List Reading) (qs : List (List ℕ)) (gs : List (ℕ × Recorded)) (a : Unread) → Stands lists qs gs → HasRead lists qs gs a a
nothing_read lists qs gs a h = record {
  read = [];
  legal = All-nil Fits;
  bytes = refl;
  counter = ap (λ n. n % 65536) (omega arith);
  stands = rw (append-nil qs) h;
}

-- a frame is the same for counters that are the same modulo 65536
same_frame : (m n : ℕ) (q : List ℕ) → m % 65536 ≡ n % 65536 → frame m q ≡ frame n q
same_frame m n q h = ap (λ k. (two_bytes (length q) ++ two_bytes k) ++ q) h

text-last : (n : ℕ) (qs : List (List ℕ)) (q : List ℕ) → text n (qs ++ q ∷ []) ≡ text n qs ++ frame (n + length qs) q
text-last n [] q = append-nil (frame n q) ∙ ap (λ k. frame k q) (omega arith)
text-last n (p ∷ qs) q =
    ap (λ xs. frame n p ++ xs) (text-last (n + 1) qs q ∙ ap (λ k. text (n + 1) qs ++ frame k q) (omega arith))
    ∙ sym (append_assoc (frame n p) (text (n + 1) qs) (frame (n + (1 + length qs)) q))
    ∙ ap (λ k. (frame n p ++ text (n + 1) qs) ++ frame k q) (omega arith)

pub one_read : (old now : List Reading) (qs : List (List ℕ)) (gs hs : List (ℕ × Recorded)) (a b c : Unread) (q : List ℕ) → HasRead old qs gs a b → IsNext b c q → ((ps : List (List ℕ)) → Stands old ps gs → Stands now (ps ++ q ∷ []) hs) → HasRead now qs hs a c
one_read old now qs gs hs a b c q h n step =
    let at : frame b.counter q ≡ frame (a.counter + length h.read) q = same_frame b.counter (a.counter + length h.read) q h.counter in
    let size : length (h.read ++ q ∷ []) ≡ length h.read + 1 = length-append h.read (q ∷ []) in
    record {
      read = h.read ++ q ∷ [];
      legal = All-append Fits h.read (q ∷ []) h.legal (All-cons Fits q [] (n.legal.some, n.legal.fits) (All-nil Fits));
      bytes = h.bytes
          ∙ ap (λ xs. text a.counter h.read ++ xs) (n.bytes ∙ ap (λ xs. xs ++ c.rest) at)
          ∙ sym (append_assoc (text a.counter h.read) (frame (a.counter + length h.read) q) c.rest)
          ∙ ap (λ xs. xs ++ c.rest) (sym (text-last a.counter h.read q));
      counter = omega (arith, n.counter, h.counter, size);
      stands = subst (λ xs. Stands now xs hs) (append_assoc qs h.read (q ∷ [])) (step (qs ++ h.read) h.stands);
    }

-- a frame has bytes
pub shorter : (b c : Unread) (q : List ℕ) → IsNext b c q → length c.rest < length b.rest
shorter b c q n = omega (arith, ap length n.bytes, length-append (frame b.counter q) c.rest, n.legal.some, length-append (two_bytes (length q) ++ two_bytes (b.counter % 65536)) q)
