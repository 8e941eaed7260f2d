-- The frames in some bytes, one behind another.
use Rattle.std.proofs.Common.{◌≡◌, ℕ, ◌<◌, ◌++◌, ◌∷◌, [], Bool, List, length, refl, sym, ap, subst, ◌∙◌, arith}
use Rattle.std.proofs.lemmas.List.{append_assoc, append-nil, length-append}
use Rattle.captured_samples.specs.Frames.{Came}
use Rattle.captured_samples.specs.Slaves.{SlaveOf, StandsAfter}
use Rattle.captured_samples.specs.Standing.{Told, told_of}
use Rattle.frame_writer.specs.Frame.{frame}
use Rattle.frame_writer.specs.Split.{joined_frames}
use Rattle.capture_recording.specs.Heard.{HearsFrames, came_by, came_with}

came-behind : (m : Bool) (fs : List (ℕ × List ℕ)) (f : ℕ × List ℕ) (h : List Came)
    → came_with m (fs ++ f ∷ []) h ≡ came_by m f ∷ came_with m fs h
came-behind m [] f h = refl
came-behind m (g ∷ fs) f h = came-behind m fs f (came_by m g ∷ h)

joined-behind : (fs : List (ℕ × List ℕ)) (f : ℕ × List ℕ) → joined_frames (fs ++ f ∷ []) ≡ joined_frames fs ++ frame f.0 f.1
joined-behind [] f = append-nil (frame f.0 f.1)
joined-behind (g ∷ fs) f =
    ap (λ (bytes : List ℕ). frame g.0 g.1 ++ bytes) (joined-behind fs f)
    ∙ sym (append_assoc (frame g.0 g.1) (joined_frames fs) (frame f.0 f.1))

pub hears-none : (m : Bool) (s : SlaveOf) (t : List Told → Type 0) → HearsFrames m [] s s t t
hears-none m s t = record { stands = λ start h st. st; tells = λ start h st was. was }

-- one frame more
pub hears-more : (m : Bool) (fs : List (ℕ × List ℕ)) (f : ℕ × List ℕ) (a b c : SlaveOf) (s t u : List Told → Type 0)
    → HearsFrames m fs a b s t → HearsFrames m (f ∷ []) b c t u → HearsFrames m (fs ++ f ∷ []) a c s u
hears-more m fs f a b c s t u before own = record {
  stands = λ start h st. subst (λ (k : List Came). StandsAfter start k c) (sym (came-behind m fs f h))
      (own.stands start (came_with m fs h) (before.stands start h st));
  tells = λ start h st was. subst (λ (k : List Came). u (told_of start k)) (sym (came-behind m fs f h))
      (own.tells start (came_with m fs h) (before.stands start h st) (before.tells start h st was));
}

pub whole-more : (bytes : List ℕ) (fs : List (ℕ × List ℕ)) (n : ℕ) (p rest behind : List ℕ) → bytes ≡ joined_frames fs ++ rest
    → rest ≡ frame n p ++ behind → bytes ≡ joined_frames (fs ++ (n, p) ∷ []) ++ behind
whole-more bytes fs n p rest behind whole next =
    whole ∙ ap (λ (xs : List ℕ). joined_frames fs ++ xs) next ∙ sym (append_assoc (joined_frames fs) (frame n p) behind)
    ∙ ap (λ (xs : List ℕ). xs ++ behind) (sym (joined-behind fs (n, p)))

pub longer : (n : ℕ) (p rest behind : List ℕ) → rest ≡ frame n p ++ behind → length behind < length rest
longer n p rest behind is =
    let len = ap (λ (xs : List ℕ). length xs) is in
    omega (arith, len, length-append p behind)

pub none-left : (n : ℕ) (p rest behind : List ℕ) → rest ≡ frame n p ++ behind → length rest ≡ 0 → ⊥
none-left n p rest behind is none =
    let more = longer n p rest behind is in
    omega (arith, more, none)
