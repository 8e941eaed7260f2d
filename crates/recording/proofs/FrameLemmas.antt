-- The frames that were written are the text of their packets, from the counter on that was next.
use Rattle.std.proofs.Common.{◌≡◌, ℕ, zero, suc, ◌+◌, ◌%◌, List, [], ◌∷◌, ◌++◌, length, refl, sym, ap, ◌∙◌, arith}
use Rattle.std.specs.Prelude.{All, Bool, Option}
use Rattle.std.proofs.lemmas.List.Elements.{All-cons, All-head, All-nil, All-tail}
use Rattle.xcp_base.specs.Samples.{SampleParts}
use Rattle.frame_writer.specs.Frame.{IsFrame, frame, text, two_bytes}
use Rattle.frame_writer.specs.Split.{Fits, joined_frames}
use Rattle.frame_writer.specs.Writing.{WriterState}
use Rattle.daq_engine.specs.Frames.{AreCounted, HasFrames, packets_of_frames}

joined-text : (n : ℕ) (fs : List (ℕ × List ℕ)) → AreCounted n fs → joined_frames fs ≡ text n (packets_of_frames fs)
joined-text n [] h = refl
joined-text n (f ∷ fs) h =
    let here : f.0 ≡ (n + 0) % 65536 = h zero f refl in
    let number : f.0 % 65536 ≡ n % 65536 = omega (arith, here) in
    let next : AreCounted (n + 1) fs = λ i g at. h (suc i) g at ∙ omega arith in
    ap (λ k. ((two_bytes (length f.1) ++ two_bytes k) ++ f.1) ++ joined_frames fs) number
    ∙ ap (λ xs. frame n f.1 ++ xs) (joined-text (n + 1) fs next)

pub all_fit : (fs : List (ℕ × List ℕ)) → All IsFrame fs → All Fits (packets_of_frames fs)
all_fit [] legal = All-nil Fits
all_fit (f ∷ fs) legal =
    let is = All-head IsFrame f fs legal in
    All-cons Fits f.1 (packets_of_frames fs) (is.some, is.fits) (all_fit fs (All-tail IsFrame f fs legal))

-- what a writer wrote in whole frames
pub whole-text : (start now : WriterState) (hand : Option SampleParts) (failed : Bool) (whole : List ℕ) (fs : List (ℕ × List ℕ)) → HasFrames start now hand failed whole fs
    → whole ≡ text start.counter (packets_of_frames fs)
whole-text start now hand failed whole fs h = sym h.split.whole ∙ joined-text start.counter fs h.counted

-- there are as many packets as frames
pub length-packets_of_frames : (fs : List (ℕ × List ℕ)) → length (packets_of_frames fs) ≡ length fs
length-packets_of_frames [] = refl
length-packets_of_frames (f ∷ fs) = ap suc (length-packets_of_frames fs)
