-- Frames get their numbers, one by one.
use Rattle.std.proofs.Common.{◌≡◌, ℕ, ◌+◌, ◌%◌, ◌<◌, ◌≤◌, List, [], ◌∷◌, ◌++◌, length, take, drop, get_or, refl, sym, ap, ◌∙◌, ◌-◌, arith, append_assoc, append-nil, take-append-drop}
use Rattle.std.proofs.lemmas.List.{drop-take, drop_at, drop_more, length-append, length-take, take-take, take_at, take_more}
use Rattle.std.proofs.lemmas.List.Elements.{All-take}
use Rattle.std.specs.Prelude.{All}
use Rattle.frame_writer.specs.Frame.{frame, text, two_bytes}
use Rattle.frame_writer.proofs.TextLemmas.{text-append}
use Rattle.frame_ring.specs.Reading.{len_at}
use Rattle.channel_ring.specs.Making.{IsPacket}
use Rattle.frame_writer.specs.Frame.{unnumbered}
use Rattle.frame_ring.specs.Sending.{AreFramesOf}
use Rattle.frame_ring.proofs.FrameLemmas.{unnumbered-append}

-- a number takes no room
pub same_len : (n : ℕ) (qs : List (List ℕ)) → length (text n qs) ≡ length (unnumbered qs)
same_len n [] = refl
same_len n (q ∷ qs) = omega (arith, same_len (n + 1) qs, length-append (frame n q) (text (n + 1) qs), length-append (frame 0 q) (unnumbered qs))

-- where the next frame stands, once those before it have their numbers
pub record Unnumbered (cells : List ℕ) (qs : List (List ℕ)) (counter k at : ℕ) : Type 0 where
  pub there : at + 4 ≤ length cells
  pub ends : at + 4 + len_at (drop at cells) ≡ length (unnumbered (take (k + 1) qs))
  -- with its number, and all else as it was
  pub numbered : (new : List ℕ) → take (at + 4) new ≡ take (at + 2) cells ++ two_bytes ((counter + k) % 65536) → drop (at + 4) new ≡ drop (at + 4) cells
      → new ≡ text counter (take (k + 1) qs) ++ unnumbered (drop (k + 1) qs)

pub unnumbered_at : (cells : List ℕ) (qs : List (List ℕ)) (counter k at : ℕ) → All IsPacket qs → k < length qs → at ≡ length (unnumbered (take k qs))
    → cells ≡ text counter (take k qs) ++ unnumbered (drop k qs) → Unnumbered cells qs counter k at
unnumbered_at cells qs counter k at each h e are =
    let done = take k qs in
    let q : List ℕ = get_or qs k [] in
    let rest = drop (k + 1) qs in
    let t : List ℕ = text counter done in
    let u : List ℕ = unnumbered rest in
    let head : List ℕ = two_bytes (length q) in
    let long : length t ≡ at = same_len counter done ∙ sym e in
    let split : unnumbered (drop k qs) ≡ unnumbered (q ∷ rest) = ap unnumbered (drop_more qs k [] h) in
    let is : cells ≡ t ++ (head ++ (0 ∷ 0 ∷ (q ++ u))) = are ∙ ap (λ b. t ++ b) split in
    let fits : length q ≤ 8192 = (each k [] h).fits in
    let behind : drop at cells ≡ head ++ (0 ∷ 0 ∷ (q ++ u)) = ap (drop at) is ∙ drop_at t (head ++ (0 ∷ 0 ∷ (q ++ u))) at long in
    let len : len_at (drop at cells) ≡ length q = ap len_at behind ∙ omega (arith, fits) in
    let one : take (k + 1) qs ≡ done ++ q ∷ [] = take_more qs k [] h in
    let more : text counter (take (k + 1) qs) ≡ t ++ frame (counter + k) q =
    ap (text counter) one ∙ text-append counter done (q ∷ []) ∙ ap (λ n. t ++ (frame (counter + n) q ++ [])) (length-take k qs ∙ omega (arith, h)) ∙ ap (λ b. t ++ b) (append-nil (frame (counter + k) q)) in
    let total : length (unnumbered (take (k + 1) qs)) ≡ at + 4 + length q =
    sym (same_len counter (take (k + 1) qs)) ∙ ap length more ∙ omega (arith, length-append t (frame (counter + k) q), long) in
    record {
      there = omega (arith, ap length is, length-append t (head ++ (0 ∷ 0 ∷ (q ++ u))), long);
      ends = omega (arith, len, total);
      numbered = λ new front back.
          let middle : take (at + 2) cells ≡ t ++ head =
          ap (take (at + 2)) (is ∙ sym (append_assoc t head (0 ∷ 0 ∷ (q ++ u)))) ∙ take_at (t ++ head) (0 ∷ 0 ∷ (q ++ u)) (at + 2) (omega (arith, length-append t head, long)) in
          let far : cells ≡ (t ++ (head ++ 0 ∷ 0 ∷ [])) ++ (q ++ u) = is ∙ sym (append_assoc t (head ++ 0 ∷ 0 ∷ []) (q ++ u)) in
          let end : drop (at + 4) cells ≡ q ++ u = ap (drop (at + 4)) far ∙ drop_at (t ++ (head ++ 0 ∷ 0 ∷ [])) (q ++ u) (at + 4) (omega (arith, length-append t (head ++ 0 ∷ 0 ∷ []), long)) in
          let ctr : List ℕ = two_bytes ((counter + k) % 65536) in
          sym (take-append-drop (at + 4) new)
          ∙ ap (λ a. a ++ drop (at + 4) new) (front ∙ ap (λ b. b ++ ctr) middle)
          ∙ ap (λ b. ((t ++ head) ++ ctr) ++ b) (back ∙ end)
          ∙ ap (λ a. a ++ (q ++ u)) (append_assoc t head ctr)
          ∙ append_assoc t (head ++ ctr) (q ++ u)
          ∙ ap (λ b. t ++ b) (sym (append_assoc (head ++ ctr) q u))
          ∙ sym (append_assoc t (frame (counter + k) q) u)
          ∙ ap (λ a. a ++ u) (sym more);
    }

-- ---- the first frames of a sample

-- the first frames are those of the first packets
pub record FirstFrames (frames : List ℕ) (packets : List (List ℕ)) (count len : ℕ) : Type 0 where
  pub short : len ≤ length frames
  pub are : AreFramesOf (take len frames) count (take count packets)

pub first_frames : (frames : List ℕ) (packets : List (List ℕ)) (n count len : ℕ) → AreFramesOf frames n packets → count ≤ length packets → len ≡ length (unnumbered (take count packets)) → FirstFrames frames packets count len
first_frames frames packets n count len f few e =
    let front = unnumbered (take count packets) in
    let back = unnumbered (drop count packets) in
    let is : frames ≡ front ++ back = f.are ∙ ap unnumbered (sym (take-append-drop count packets)) ∙ unnumbered-append (take count packets) (drop count packets) in
    record {
      short = omega (arith, e, ap length is, length-append front back);
      are = record {
        each = All-take IsPacket count packets f.each;
        are = ap (take len) is ∙ take_at front back len (sym e);
        many = sym (length-take count packets ∙ omega (arith, few));
      };
    }

-- what was laid out behind the front
pub laid_behind : (old new laid : List ℕ) (at end : ℕ) → at ≤ length old → end ≡ at + length laid → take end new ≡ take at old ++ laid → take (end - at) (drop at new) ≡ laid
laid_behind old new laid at end fits e is =
    let front : length (take at old) ≡ at = length-take at old ∙ omega (arith, fits) in
    let size : end ≡ at + (end - at) = omega (arith, e) in
    sym (drop-take at (end - at) new) ∙ ap (λ n. drop at (take n new)) (sym size) ∙ ap (drop at) is ∙ drop_at (take at old) laid at front

pub front_stays : (old new laid : List ℕ) (at end : ℕ) → at ≤ length old → end ≡ at + length laid → take end new ≡ take at old ++ laid → take at new ≡ take at old
front_stays old new laid at end fits e is =
    let front : length (take at old) ≡ at = length-take at old ∙ omega (arith, fits) in
    sym (take-take at end new (omega (arith, e))) ∙ ap (take at) is ∙ take_at (take at old) laid at front
