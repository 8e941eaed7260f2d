-- What is written of packets, one after another.
use Rattle.std.proofs.Common.{◌≡◌, ℕ, ◌+◌, ◌%◌, ◌<◌, List, [], ◌∷◌, ◌++◌, length, take, refl, sym, ap, ◌∙◌, arith, append_assoc, append-nil, length-append}
use Rattle.std.proofs.Math.Seq.{take-append-add}
use Rattle.std.proofs.lemmas.List.{take-append-le}
use Rattle.frame_writer.specs.Counts.{OneRose}
use Rattle.frame_writer.specs.Frame.{frame, text, two_bytes}
use Rattle.frame_writer.specs.Shown.{BreaksOff, OutState, Rose, after_bytes}
use Rattle.frame_writer.specs.Writing.{AfterText, FailsWithin, WriterState, after_frame}

-- a frame depends on its number modulo 65536
pub frame-mod : (m n : ℕ) (q : List ℕ) → m % 65536 ≡ n % 65536 → frame m q ≡ frame n q
frame-mod m n q e = ap (λ k. (two_bytes (length q) ++ two_bytes k) ++ q) e

-- and so does what is written of packets on its first number
pub text-mod : (m n : ℕ) (qs : List (List ℕ)) → m % 65536 ≡ n % 65536 → text m qs ≡ text n qs
text-mod m n [] e = refl
text-mod m n (q ∷ qs) e =
    ap (λ x. x ++ text (m + 1) qs) (frame-mod m n q e) ∙ ap (λ x. frame n q ++ x) (text-mod (m + 1) (n + 1) qs (omega arith))

pub text-append : (n : ℕ) (xs ys : List (List ℕ)) → text n (xs ++ ys) ≡ text n xs ++ text (n + length xs) ys
text-append n [] ys = text-mod n (n + 0) ys (omega arith)
text-append n (x ∷ xs) ys =
    let c : (n + 1 + length xs) % 65536 ≡ (n + length (x ∷ xs)) % 65536 = omega arith in
    let i = text-append (n + 1) xs ys ∙ ap (λ t. text (n + 1) xs ++ t) (text-mod (n + 1 + length xs) (n + length (x ∷ xs)) ys c) in
    ap (λ t. frame n x ++ t) i ∙ sym (append_assoc (frame n x) (text (n + 1) xs) (text (n + length (x ∷ xs)) ys))

-- nothing was sent
pub after_text-nil : (a : WriterState) → AfterText a a []
after_text-nil a = record { out = ap (λ (xs : List ℕ). record a.out { contents = xs }) (sym (append-nil a.out.contents)); counter = omega arith; closed = refl }

-- one packet more was sent
pub after_text-push : (a b : WriterState) (qs : List (List ℕ)) (q : List ℕ) → AfterText a b qs → AfterText a (after_frame b q) (qs ++ q ∷ [])
after_text-push a b qs q sent =
    let last : frame b.counter q ≡ text (a.counter + length qs) (q ∷ []) =
    frame-mod b.counter (a.counter + length qs) q sent.counter ∙ sym (append-nil (frame (a.counter + length qs) q)) in
    let whole : text a.counter (qs ++ q ∷ []) ≡ text a.counter qs ++ frame b.counter q =
    text-append a.counter qs (q ∷ []) ∙ ap (λ t. text a.counter qs ++ t) (sym last) in
    let contents : (a.out.contents ++ text a.counter qs) ++ frame b.counter q ≡ a.out.contents ++ text a.counter (qs ++ q ∷ []) =
    append_assoc a.out.contents (text a.counter qs) (frame b.counter q) ∙ ap (λ t. a.out.contents ++ t) (sym whole) in
    record {
      out = ap (λ (o : OutState). after_bytes o (frame b.counter q)) sent.out ∙ ap (λ (xs : List ℕ). record a.out { contents = xs }) contents;
      counter = omega (arith, sent.counter, length-append qs (q ∷ []));
      closed = sent.closed;
    }

-- within the middle of some bytes is within them all
pub take_within : (front middle back : List ℕ) (k : ℕ) → k < length middle → take (length front + k) (front ++ (middle ++ back)) ≡ front ++ take k middle
take_within front middle back k h =
    take-append-add front (middle ++ back) k ∙ ap (λ t. front ++ t) (take-append-le k middle back (omega arith))

-- the writer failed within the packet behind those that were sent, and so within any packets that begin with these
pub breaks_off-text : (a b c : WriterState) (qs : List (List ℕ)) (q : List ℕ) (rest all : List (List ℕ)) → AfterText a b qs → FailsWithin b c (frame b.counter q) → all ≡ qs ++ q ∷ rest → BreaksOff a.out c.out (text a.counter all)
breaks_off-text a b c qs q rest all sent fails e =
    let front : List ℕ = text a.counter qs in
    let middle : List ℕ = frame b.counter q in
    let back : List ℕ = text (a.counter + length qs + 1) rest in
    let k : ℕ = fails.out.kept in
    let whole : text a.counter all ≡ front ++ (middle ++ back) =
    ap (text a.counter) e ∙ text-append a.counter qs (q ∷ rest)
    ∙ ap (λ f. front ++ (f ++ back)) (frame-mod (a.counter + length qs) b.counter q (sym sent.counter)) in
    let contents : c.out.contents ≡ a.out.contents ++ take (length front + k) (front ++ (middle ++ back)) =
    fails.out.contents ∙ ap (λ (o : OutState). o.contents ++ take k middle) sent.out
    ∙ append_assoc a.out.contents front (take k middle)
    ∙ ap (λ t. a.out.contents ++ t) (sym (take_within front middle back k fails.out.proper)) in
    let failures : b.out.failures ≡ a.out.failures = ap (λ (o : OutState). o.failures) sent.out in
    let stalls : b.out.stalls ≡ a.out.stalls = ap (λ (o : OutState). o.stalls) sent.out in
    let rose : Rose a.out c.out = rw (← failures, ← stalls) fails.out.rose in
    let once : OneRose a.out.failures a.out.stalls c.out.failures c.out.stalls = rw (← failures, ← stalls) fails.out.once in
    record {
      kept = length front + k;
      proper = rw whole (omega (arith, fails.out.proper, length-append front (middle ++ back), length-append middle back));
      contents = rw whole contents;
      rose = rose;
      once = once;
    }
