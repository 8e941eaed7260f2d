-- What is seen of samples whose places are chosen by tests that agree, or that part them.
use Rattle.std.proofs.Common.{◌≡◌, ℕ, ◌≤◌, Bool, true, false, ◌||◌, if◌then◌else◌, List, [], ◌∷◌, refl, ap, ◌∙◌}
use Rattle.sample_picture.specs.declared.mark.Mark.{Mark}
use Rattle.sample_picture.specs.declared.mark.Mark.TheVariants.{Empty, Sample, Overload}
use Rattle.sample_picture.specs.Marks.{Seen, mark_at, mark_of, with_mark}

left : (m a b : Mark) → with_mark m (with_mark a b) ≡ with_mark (with_mark m a) b
left Overload a b = refl
left Empty a b = refl
left Sample Overload b = refl
left Sample Sample Overload = refl
left Sample Sample Sample = refl
left Sample Sample Empty = refl
left Sample Empty b = refl

right : (m a b : Mark) → with_mark m (with_mark a b) ≡ with_mark a (with_mark m b)
right Empty a b = refl
right Overload Overload b = refl
right Overload Sample b = refl
right Overload Empty b = refl
right Sample Overload b = refl
right Sample Sample b = refl
right Sample Empty b = refl

both : (m a b : Mark) → with_mark m (with_mark a b) ≡ with_mark (with_mark m a) (with_mark m b)
both Overload a b = refl
both Empty a b = refl
both Sample Overload b = refl
both Sample Sample Overload = refl
both Sample Sample Sample = refl
both Sample Sample Empty = refl
both Sample Empty Overload = refl
both Sample Empty Sample = refl
both Sample Empty Empty = refl

-- what lies between two places
abbrev pub Between : ℕ → ℕ → List Seen → Type 0
Between low high [] = Unit {0}
Between low high (s ∷ seen) = (low ≤ s.at) × (s.at ≤ high) × Between low high seen

-- one sample more, under tests that agree
step_same : (m a b : Mark) (p q : Bool) → p ≡ q → a ≡ b
    → (if p then with_mark m a else a) ≡ (if q then with_mark m b else b)
step_same m a b p q e f =
    ap (λ (t : Bool). if t then with_mark m a else a) e ∙ ap (λ (x : Mark). if q then with_mark m x else x) f

pub same_marks : (p q : ℕ → Bool) (low high : ℕ) (seen : List Seen) → Between low high seen
    → ((at : ℕ) → low ≤ at → at ≤ high → p at ≡ q at) → mark_at p seen ≡ mark_at q seen
same_marks p q low high [] h e = refl
same_marks p q low high (s ∷ seen) h e =
    step_same (mark_of s.overload) _ _ (p s.at) (q s.at) (e s.at h.0 h.1) (same_marks p q low high seen h.2 e)

-- one sample more, under a test that is one of two
step_parted : (m a b c : Mark) (p q r : Bool) → p ≡ q || r → a ≡ with_mark b c
    → (if p then with_mark m a else a) ≡ with_mark (if q then with_mark m b else b) (if r then with_mark m c else c)
step_parted m a b c p true true e f = ap (λ (t : Bool). if t then with_mark m a else a) e ∙ ap (with_mark m) f ∙ both m b c
step_parted m a b c p true false e f = ap (λ (t : Bool). if t then with_mark m a else a) e ∙ ap (with_mark m) f ∙ left m b c
step_parted m a b c p false true e f = ap (λ (t : Bool). if t then with_mark m a else a) e ∙ ap (with_mark m) f ∙ right m b c
step_parted m a b c p false false e f = ap (λ (t : Bool). if t then with_mark m a else a) e ∙ f

pub parted_marks : (p q r : ℕ → Bool) (low high : ℕ) (seen : List Seen) → Between low high seen
    → ((at : ℕ) → low ≤ at → at ≤ high → p at ≡ q at || r at)
    → mark_at p seen ≡ with_mark (mark_at q seen) (mark_at r seen)
parted_marks p q r low high [] h e = refl
parted_marks p q r low high (s ∷ seen) h e =
    step_parted (mark_of s.overload) _ _ _ (p s.at) (q s.at) (r s.at) (e s.at h.0 h.1)
    (parted_marks p q r low high seen h.2 e)

-- no sample is chosen
pub no_mark : (p : ℕ → Bool) (low high : ℕ) (seen : List Seen) → Between low high seen
    → ((at : ℕ) → low ≤ at → at ≤ high → p at ≡ false) → mark_at p seen ≡ Empty
no_mark p low high [] h e = refl
no_mark p low high (s ∷ seen) h e =
    ap (λ (t : Bool). if t then with_mark (mark_of s.overload) (mark_at p seen) else mark_at p seen) (e s.at h.0 h.1)
    ∙ no_mark p low high seen h.2 e
