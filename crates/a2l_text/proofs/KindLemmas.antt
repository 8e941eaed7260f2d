-- What a text begins with, by its kind.
use Rattle.std.proofs.Common.{◌≡◌, ℕ, ◌<◌, true, false, not, cond, List, [], ◌∷◌, length, drop, refl, subst, ap, ◌∙◌, ◌≤◌, arith, eqb, eqb-true}
use Rattle.a2l_text.specs.declared.kind.Kind.{Kind}
use Rattle.a2l_text.specs.declared.kind.Kind.TheVariants.{Nothing, Blank, LineComment, BlockComment, Text, Plain}
use Rattle.a2l_text.specs.Kinds.{is_blank, kind_of, kind_of_slash, is_gap, is_plain}

-- the first bytes of what has a kind
abbrev pub BeginsAs : Kind → List ℕ → Type 0
BeginsAs Nothing text = text ≡ []
BeginsAs Blank text = (byte : ℕ) × (is_blank byte ≡ true) × (text ≡ byte ∷ drop 1 text)
BeginsAs LineComment text = text ≡ 47 ∷ 47 ∷ drop 2 text
BeginsAs BlockComment text = text ≡ 47 ∷ 42 ∷ drop 2 text
BeginsAs Text text = text ≡ 34 ∷ drop 1 text
BeginsAs Plain text = 0 < length text

by_star : (byte : ℕ) (bytes : List ℕ) → BeginsAs (cond (eqb byte 42) BlockComment Plain) (47 ∷ byte ∷ bytes)
by_star byte bytes =
    elim (eqb byte 42) as (λ v. eqb byte 42 ≡ v → BeginsAs (cond v BlockComment Plain) (47 ∷ byte ∷ bytes)) [
      | true ↦ λ h. rw (eqb-true byte 42 h) refl
      | false ↦ λ h. omega arith
    ] refl

by_slash : (bytes : List ℕ) → BeginsAs (kind_of_slash bytes) (47 ∷ bytes)
by_slash [] = omega arith
by_slash (byte ∷ bytes) =
    elim (eqb byte 47) as (λ v. eqb byte 47 ≡ v → BeginsAs (cond v LineComment (cond (eqb byte 42) BlockComment Plain)) (47 ∷ byte ∷ bytes)) [
      | true ↦ λ h. rw (eqb-true byte 47 h) refl
      | false ↦ λ h. by_star byte bytes
    ] refl

by_other : (byte : ℕ) (bytes : List ℕ) → BeginsAs (cond (eqb byte 47) (kind_of_slash bytes) Plain) (byte ∷ bytes)
by_other byte bytes =
    elim (eqb byte 47) as (λ v. eqb byte 47 ≡ v → BeginsAs (cond v (kind_of_slash bytes) Plain) (byte ∷ bytes)) [
      | true ↦ λ h. rw (eqb-true byte 47 h) (by_slash bytes)
      | false ↦ λ h. omega arith
    ] refl

by_quote : (byte : ℕ) (bytes : List ℕ) → BeginsAs (cond (eqb byte 34) Text (cond (eqb byte 47) (kind_of_slash bytes) Plain)) (byte ∷ bytes)
by_quote byte bytes =
    elim (eqb byte 34) as (λ v. eqb byte 34 ≡ v → BeginsAs (cond v Text (cond (eqb byte 47) (kind_of_slash bytes) Plain)) (byte ∷ bytes)) [
      | true ↦ λ h. rw (eqb-true byte 34 h) refl
      | false ↦ λ h. by_other byte bytes
    ] refl

pub begins_as : (text : List ℕ) → BeginsAs (kind_of text) text
unfolding kind_of
begins_as [] = refl
begins_as (byte ∷ bytes) =
    elim (is_blank byte) as (λ v. is_blank byte ≡ v → BeginsAs (cond v Blank (cond (eqb byte 34) Text (cond (eqb byte 47) (kind_of_slash bytes) Plain))) (byte ∷ bytes)) [
      | true ↦ λ h. (byte, h, refl)
      | false ↦ λ h. by_quote byte bytes
    ] refl

-- the same of a text whose kind is known
pub begins_at : (text : List ℕ) (kind : Kind) → kind_of text ≡ kind → BeginsAs kind text
begins_at text kind h = subst (λ k. BeginsAs k text) h (begins_as text)

-- the kinds of what begins so
pub kind-blank : (byte : ℕ) (bytes : List ℕ) → is_blank byte ≡ true → kind_of (byte ∷ bytes) ≡ Blank
unfolding kind_of
kind-blank byte bytes h = rw h refl

pub kind-line : (bytes : List ℕ) → kind_of (47 ∷ 47 ∷ bytes) ≡ LineComment
unfolding kind_of
kind-line bytes = refl

pub kind-block : (bytes : List ℕ) → kind_of (47 ∷ 42 ∷ bytes) ≡ BlockComment
unfolding kind_of
kind-block bytes = refl

pub kind-text : (bytes : List ℕ) → kind_of (34 ∷ bytes) ≡ Text
unfolding kind_of
kind-text bytes = refl

pub kind-nothing : kind_of [] ≡ Nothing
unfolding kind_of
kind-nothing = refl

pub is_plain_kind : (kind : Kind) → not (is_plain kind) ≡ false → kind ≡ Plain
is_plain_kind Nothing h = cc
is_plain_kind Blank h = cc
is_plain_kind LineComment h = cc
is_plain_kind BlockComment h = cc
is_plain_kind Text h = cc
is_plain_kind Plain h = refl

pub two_at : (text : List ℕ) (a b : ℕ) → text ≡ a ∷ b ∷ drop 2 text → 2 ≤ length text
two_at text a b e = omega (arith, ap length e)

pub one_at : (text : List ℕ) (a : ℕ) → text ≡ a ∷ drop 1 text → 1 ≤ length text
one_at text a e = omega (arith, ap length e)

nothing_by : (kind : Kind) (text : List ℕ) → BeginsAs kind text → is_gap kind ≡ false → (kind ≡ Text → ⊥) → (kind ≡ Plain → ⊥) → text ≡ []
nothing_by Nothing text b g t p = b
nothing_by Blank text b g t p = cc
nothing_by LineComment text b g t p = cc
nothing_by BlockComment text b g t p = cc
nothing_by Text text b g t p = absurd (t refl)
nothing_by Plain text b g t p = absurd (p refl)

-- where neither a gap nor a word begins, the text is over
pub nothing_left : (text : List ℕ) (kind : Kind) → kind ≡ kind_of text → is_gap (kind_of text) ≡ false → (kind ≡ Text → ⊥) → (kind ≡ Plain → ⊥) → text ≡ []
nothing_left text kind e g t p =
    nothing_by (kind_of text) text (begins_as text) g (λ h. t (e ∙ h)) (λ h. p (e ∙ h))
