-- Frames of several packets in one buffer, and how many of them are whole in its first bytes.
use Rattle.std.proofs.Common.{◌≡◌, ℕ, ◌+◌, ◌-◌, ◌*◌, ◌%◌, ◌≤◌, List, [], ◌∷◌, ◌++◌, drop, length, map, take, false, true, refl, sym, ap, ◌∙◌, arith, append_assoc, append-nil, length-append, Bor}
use Rattle.std.proofs.lemmas.List.{drop-drop, drop-take, length-map, length-take-le, map_push}
use Rattle.std.proofs.Math.Seq.{drop-append_seam}
use Rattle.xcp_base.specs.Bodies.{body_of}
use Rattle.frame_writer.specs.Frame.{frame, text}
use Rattle.frame_writer.specs.Inner.{BreaksOffAfter, ReachesInto, text_len}
use Rattle.frame_writer.specs.Writing.{FailsWithinText, WriterState, after_text}
use Rattle.frame_writer.proofs.TextLemmas.{frame-mod, take_within, text-append}

-- the packets that an iterator gave
abbrev pub packets_given : List (Bor (List ℕ)) → List (List ℕ)
packets_given given = map (λ q. q.now) given

-- those and the ones that are left are all of them, also behind one more
pub given-next : (given : List (Bor (List ℕ))) (q : Bor (List ℕ)) (it left all : List (List ℕ)) → packets_given given ++ it ≡ all → it ≡ q.now ∷ left → packets_given (given ++ q ∷ []) ++ left ≡ all
given-next given q it left all are is =
    ap (λ qs. qs ++ left) (map_push (λ (x : Bor (List ℕ)). x.now) given q)
    ∙ append_assoc (packets_given given) (q.now ∷ []) left
    ∙ ap (λ qs. packets_given given ++ qs) (sym is)
    ∙ are

-- one packet more was given
pub text-given : (n m : ℕ) (given : List (Bor (List ℕ))) (q : Bor (List ℕ)) → m ≡ (n + length given) % 65536 → text n (packets_given (given ++ q ∷ [])) ≡ text n (packets_given given) ++ frame m q.now
text-given n m given q e =
    let done : List (List ℕ) = packets_given given in
    let as_many : length done ≡ length given = length-map given (λ (x : Bor (List ℕ)). x.now) in
    ap (text n) (map_push (λ (x : Bor (List ℕ)). x.now) given q)
    ∙ text-append n done (q.now ∷ [])
    ∙ ap (λ t. text n done ++ t) (append-nil (frame (n + length done) q.now) ∙ frame-mod (n + length done) m q.now (omega (arith, e, as_many)))

text_len-push : (qs : List (List ℕ)) (q : List ℕ) → text_len (qs ++ q ∷ []) ≡ text_len qs + 4 + length q
text_len-push [] q = omega arith
text_len-push (x ∷ qs) q = omega (arith, text_len-push qs q)

pub text_len-given : (given : List (Bor (List ℕ))) (q : Bor (List ℕ)) → text_len (packets_given (given ++ q ∷ [])) ≡ text_len (packets_given given) + 4 + length q.now
text_len-given given q = ap text_len (map_push (λ (x : Bor (List ℕ)). x.now) given q) ∙ text_len-push (packets_given given) q.now

pub length-text : (n : ℕ) (qs : List (List ℕ)) → length (text n qs) ≡ text_len qs
length-text n [] = refl
length-text n (q ∷ qs) = omega (arith, length-text (n + 1) qs, length-append (frame n q) (text (n + 1) qs))

-- what the frames of some packets have, of one, and of those behind it
pub text_len-parts : (done left : List (List ℕ)) (q : List ℕ) → text_len (done ++ q ∷ left) ≡ text_len done + 4 + length q + text_len left
text_len-parts [] left q = omega arith
text_len-parts (x ∷ done) left q = omega (arith, text_len-parts done left q)

-- a body has a byte for each packet where its frame has four
pub text_len-body : (qs : List (List ℕ)) → text_len qs ≡ length (body_of qs) + 3 * length qs
unfolding body_of
text_len-body [] = omega arith
text_len-body (q ∷ qs) = omega (arith, text_len-body qs, length-append q (body_of qs))

-- the writer failed within what is written of packets, and the counter rose by the whole frames
pub fails_within_text : (a b : WriterState) (qs : List (List ℕ)) (taken count : ℕ) → BreaksOffAfter taken a.out b.out (text a.counter qs) → ReachesInto qs taken count → b.counter ≡ (a.counter + count) % 65536 → a.closed ≡ false → b.closed ≡ true → FailsWithinText a b qs
fails_within_text a b qs taken count off into counter was_open closed =
    let m : WriterState = after_text a into.whole in
    let front : List ℕ = text a.counter into.whole in
    let middle : List ℕ = frame m.counter into.torn in
    let back : List ℕ = text (a.counter + length into.whole + 1) into.unsent in
    let same : m.counter % 65536 ≡ (a.counter + length into.whole) % 65536 = omega arith in
    let bytes : text a.counter qs ≡ front ++ (middle ++ back) =
    ap (text a.counter) into.packets ∙ text-append a.counter into.whole (into.torn ∷ into.unsent)
    ∙ ap (λ f. front ++ (f ++ back)) (frame-mod (a.counter + length into.whole) m.counter into.torn (sym same)) in
    let reach : taken ≡ length front + into.into = omega (arith, into.are, length-text a.counter into.whole) in
    let kept : take taken (text a.counter qs) ≡ front ++ take into.into middle =
    ap (λ n. take n (text a.counter qs)) reach ∙ ap (take (length front + into.into)) bytes ∙ take_within front middle back into.into (omega (arith, into.within)) in
    let contents : b.out.contents ≡ (a.out.contents ++ front) ++ take into.into middle =
    off.contents ∙ ap (λ t. a.out.contents ++ t) kept ∙ sym (append_assoc a.out.contents front (take into.into middle)) in
    record {
      whole = into.whole;
      torn = into.torn;
      unsent = into.unsent;
      packets = into.packets;
      fails = record {
        out = record { kept = into.into; proper = omega (arith, into.within); contents = contents; rose = off.rose; once = off.once };
        counter = counter ∙ ap (λ n. (a.counter + n) % 65536) into.as_many;
        was_open = was_open;
        closed = closed;
      };
    }

-- what is behind `n` bytes more that were written
pub behind-next : (n end last : ℕ) (start before now : List ℕ) → drop last now ≡ drop last before → last ≡ end + n → drop end before ≡ drop end start → drop last now ≡ drop last start
behind-next n end last start before now behind is was =
    behind ∙ ap (λ k. drop k before) is ∙ sym (drop-drop n end before) ∙ ap (drop n) was ∙ drop-drop n end start ∙ ap (λ k. drop k start) (sym is)

-- what was written from `at` on
pub written_part : (at end : ℕ) (room old part : List ℕ) → at ≤ length old → at ≤ end → take end room ≡ take at old ++ part → take (end - at) (drop at room) ≡ part
written_part at end room old part within ends front =
    sym (drop-take at (end - at) room) ∙ ap (λ k. drop at (take k room)) (omega (arith, ends)) ∙ ap (drop at) front
    ∙ ap (λ k. drop k (take at old ++ part)) (sym (length-take-le at old within)) ∙ drop-append_seam (take at old) part
