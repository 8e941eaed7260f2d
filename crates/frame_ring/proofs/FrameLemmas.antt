-- Frames without a number, read again, and one by one.
use Rattle.std.proofs.Common.{◌≡◌, ℕ, ◌+◌, ◌*◌, ◌/◌, ◌%◌, ◌<◌, ◌≤◌, List, [], ◌∷◌, ◌++◌, length, take, drop, get_or, refl, sym, ap, ◌∙◌, arith, append_assoc, take-append-drop}
use Rattle.std.proofs.lemmas.List.{drop_at, drop_more, length-append, take_at, take_more}
use Rattle.std.proofs.lemmas.List.Elements.{All-head, All-tail}
use Rattle.std.specs.Prelude.{All}
use Rattle.frame_writer.specs.Frame.{frame}
use Rattle.channel_ring.specs.Making.{IsPacket}
use Rattle.frame_writer.specs.Frame.{unnumbered}
use Rattle.frame_ring.specs.Reading.{len_at, packets_in}
use Rattle.frame_ring.specs.Sending.{AreFramesOf}

pub packets-read : (qs : List (List ℕ)) (rest : List ℕ) → All IsPacket qs → packets_in (length qs) (unnumbered qs ++ rest) ≡ qs
unfolding packets_in
packets-read [] rest h = refl
packets-read (q ∷ qs) rest h =
    let fits : length q ≤ 8192 = (All-head IsPacket q qs h).fits in
    let len : length q % 256 + 256 * (length q / 256 % 256) ≡ length q = omega (arith, fits) in
    let is : (q ++ unnumbered qs) ++ rest ≡ q ++ (unnumbered qs ++ rest) = append_assoc q (unnumbered qs) rest in
    let here : take (length q) ((q ++ unnumbered qs) ++ rest) ≡ q = ap (take (length q)) is ∙ take_at q (unnumbered qs ++ rest) (length q) refl in
    let behind : drop (length q) ((q ++ unnumbered qs) ++ rest) ≡ unnumbered qs ++ rest = ap (drop (length q)) is ∙ drop_at q (unnumbered qs ++ rest) (length q) refl in
    let more : packets_in (length qs) (unnumbered qs ++ rest) ≡ qs = packets-read qs rest (All-tail IsPacket q qs h) in
    rw (len, here, behind, more) refl

-- the frame at place k, and where it ends
pub record FrameAt (qs : List (List ℕ)) (k : ℕ) : Type 0 where
  pub there : length (unnumbered (take k qs)) + 4 ≤ length (unnumbered qs)
  pub ends : length (unnumbered (take k qs)) + 4 + len_at (drop (length (unnumbered (take k qs))) (unnumbered qs)) ≡ length (unnumbered (take (k + 1) qs))
  pub within : length (unnumbered (take (k + 1) qs)) ≤ length (unnumbered qs)

pub unnumbered-append : (ps qs : List (List ℕ)) → unnumbered (ps ++ qs) ≡ unnumbered ps ++ unnumbered qs
unnumbered-append [] qs = refl
unnumbered-append (p ∷ ps) qs = ap (λ b. frame 0 p ++ b) (unnumbered-append ps qs) ∙ sym (append_assoc (frame 0 p) (unnumbered ps) (unnumbered qs))

front_len : (qs : List (List ℕ)) (q : List ℕ) (rest : List (List ℕ)) → length q ≤ 8192 → len_at (unnumbered (q ∷ rest)) ≡ length q
front_len qs q rest fits = omega (arith, fits)

pub frame_at : (qs : List (List ℕ)) (k : ℕ) → All IsPacket qs → k < length qs → FrameAt qs k
frame_at qs k each h =
    let done = take k qs in
    let q : List ℕ = get_or qs k [] in
    let rest = drop (k + 1) qs in
    let split : qs ≡ done ++ q ∷ rest = sym (take-append-drop k qs) ∙ ap (λ l. done ++ l) (drop_more qs k [] h) in
    let one : take (k + 1) qs ≡ done ++ q ∷ [] = take_more qs k [] h in
    let bytes : unnumbered qs ≡ unnumbered done ++ unnumbered (q ∷ rest) = ap unnumbered split ∙ unnumbered-append done (q ∷ rest) in
    let behind : drop (length (unnumbered done)) (unnumbered qs) ≡ unnumbered (q ∷ rest) = ap (drop (length (unnumbered done))) bytes ∙ drop_at (unnumbered done) (unnumbered (q ∷ rest)) (length (unnumbered done)) refl in
    let fits : length q ≤ 8192 = (each k [] h).fits in
    let len : len_at (drop (length (unnumbered done)) (unnumbered qs)) ≡ length q = ap len_at behind ∙ front_len qs q rest fits in
    let first : length (unnumbered (q ∷ rest)) ≡ 4 + length q + length (unnumbered rest) = omega (arith, length-append q (unnumbered rest)) in
    let more : length (unnumbered (take (k + 1) qs)) ≡ length (unnumbered done) + 4 + length q =
    ap (λ l. length (unnumbered l)) one ∙ ap length (unnumbered-append done (q ∷ [])) ∙ omega (arith, length-append (unnumbered done) (unnumbered (q ∷ [])), length-append q []) in
    let all : length (unnumbered qs) ≡ length (unnumbered done) + (4 + length q + length (unnumbered rest)) = ap length bytes ∙ omega (arith, length-append (unnumbered done) (unnumbered (q ∷ rest)), first) in
    record {
      there = omega (arith, all);
      ends = omega (arith, len, more);
      within = omega (arith, all, more);
    }

-- the same of the bytes of frames
pub record NextFrame (bytes : List ℕ) (packets : List (List ℕ)) (k len : ℕ) : Type 0 where
  pub there : len + 4 ≤ length bytes
  pub ends : len + 4 + len_at (drop len bytes) ≡ length (unnumbered (take (k + 1) packets))
  pub within : length (unnumbered (take (k + 1) packets)) ≤ length bytes

pub next_frame : (bytes : List ℕ) (packets : List (List ℕ)) (count k len : ℕ) → AreFramesOf bytes count packets → k < count → len ≡ length (unnumbered (take k packets)) → NextFrame bytes packets k len
next_frame bytes packets count k len f h e =
    let at = frame_at packets k f.each (omega (arith, h, f.many)) in
    record {
      there = omega (arith, at.there, e, ap length f.are);
      ends = ap (λ n. n + 4 + len_at (drop n bytes)) e ∙ ap (λ b. length (unnumbered (take k packets)) + 4 + len_at (drop (length (unnumbered (take k packets))) b)) f.are ∙ at.ends;
      within = omega (arith, at.within, ap length f.are);
    }
