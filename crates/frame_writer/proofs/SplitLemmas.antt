-- Bytes split in at most one way, and what was written of packets splits into them.
use Rattle.std.proofs.Common.{◌≡◌, ℕ, ◌+◌, ◌/◌, ◌%◌, ◌<◌, List, [], ◌∷◌, ◌++◌, length, take, refl, sym, ap, ◌∙◌, arith}
use Rattle.std.proofs.Math.Seq.{take-append_seam}
use Rattle.std.proofs.lemmas.List.{append_cancel_left, take_at}
use Rattle.std.proofs.lemmas.List.Elements.{All-cons, All-head, All-nil, All-tail}
use Rattle.std.specs.Prelude.{All}
use Rattle.frame_writer.specs.Frame.{IsFrame}
use Rattle.frame_writer.specs.Split.{Fits, SplitIsUnique, SplitOfText, joined_frames, numbered}

-- two lists of one length are equal where they begin the same bytes
same_front : (a b x y : List ℕ) → length a ≡ length b → a ++ x ≡ b ++ y → (a ≡ b) × (x ≡ y)
same_front a b x y l e =
    let front : a ≡ b = sym (take-append_seam a x) ∙ ap (take (length a)) e ∙ take_at b y (length a) (sym l) in
    (front, append_cancel_left a x y (rw (← front) at e))

-- two bytes tell a number below 65536
same_number : (m n : ℕ) → m < 65536 → n < 65536 → m % 256 ≡ n % 256 → m / 256 % 256 ≡ n / 256 % 256 → m ≡ n
same_number m n hm hn low high = omega arith

same_pair : (f g : ℕ × List ℕ) → f.0 ≡ g.0 → f.1 ≡ g.1 → f ≡ g
same_pair (m, p) (n, q) e h = cc

same_frames : (fs gs : List (ℕ × List ℕ)) → All IsFrame fs → All IsFrame gs → joined_frames fs ≡ joined_frames gs → fs ≡ gs
same_frames [] [] hf hg e = refl
same_frames [] (g ∷ gs) hf hg e = cc
same_frames (f ∷ fs) [] hf hg e = cc
same_frames (f ∷ fs) (g ∷ gs) hf hg e =
    let legal_f = All-head IsFrame f fs hf in
    let legal_g = All-head IsFrame g gs hg in
    let len_low : length f.1 % 256 ≡ length g.1 % 256 = cc in
    let len_high : length f.1 / 256 % 256 ≡ length g.1 / 256 % 256 = cc in
    let counter_low : f.0 % 65536 % 256 ≡ g.0 % 65536 % 256 = cc in
    let counter_high : f.0 % 65536 / 256 % 256 ≡ g.0 % 65536 / 256 % 256 = cc in
    let bodies : f.1 ++ joined_frames fs ≡ g.1 ++ joined_frames gs = cc in
    let len : length f.1 ≡ length g.1 = same_number _ _ (omega (arith, legal_f.fits)) (omega (arith, legal_g.fits)) len_low len_high in
    let counter : f.0 ≡ g.0 = same_number f.0 g.0 legal_f.counter legal_g.counter (omega (arith, legal_f.counter, legal_g.counter)) (omega (arith, legal_f.counter, legal_g.counter)) in
    let both = same_front f.1 g.1 (joined_frames fs) (joined_frames gs) len bodies in
    let heads = same_pair f g counter both.0 in
    let tails = same_frames fs gs (All-tail IsFrame f fs hf) (All-tail IsFrame g gs hg) both.1 in
    cc

pub split_is_unique : SplitIsUnique
split_is_unique bytes fs gs p q = same_frames fs gs p.legal q.legal (p.whole ∙ sym q.whole)

pub split_of_text : SplitOfText
split_of_text n [] fit = record { legal = All-nil IsFrame; whole = refl }
split_of_text n (q ∷ qs) fit =
    let rest = split_of_text (n + 1) qs (All-tail Fits q qs fit) in
    let here : Fits q = All-head Fits q qs fit in
    let frame : IsFrame (n % 65536, q) = record { counter = omega arith; some = here.0; fits = here.1 } in
    let counter : n % 65536 % 65536 ≡ n % 65536 = omega arith in
    record {
      legal = All-cons IsFrame (n % 65536, q) (numbered (n + 1) qs) frame rest.legal;
      whole = rw (counter, rest.whole);
    }
