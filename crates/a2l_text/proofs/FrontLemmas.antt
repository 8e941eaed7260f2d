-- Fronts that end at the first place that passes a test.
use Rattle.std.proofs.Common.{◌≡◌, ℕ, zero, suc, ◌<◌, ◌≤◌, Bool, true, false, List, [], ◌∷◌, ◌++◌, length, take, drop, refl, sym, ap, ◌∙◌, arith, take-append-drop, true≢false, get_or, eqb, eqb-true, eq-eqb, drop-drop, ◌+◌}
use Rattle.std.proofs.lemmas.List.{drop_all, drop_more}
use Rattle.std.proofs.lemmas.Bool.{and_parts}
use Rattle.a2l_text.specs.Kinds.{kind_of}
use Rattle.a2l_text.specs.Fronts.{IsUpTo, NeverEnds, ends_plain, ends_line, ends_block}

-- a front by the index of its end
pub up_to_at : (ends : List ℕ → Bool) (text : List ℕ) (n : ℕ) → n ≤ length text
    → ((k : ℕ) → k < n → ends (drop k text) ≡ false) → ends (drop n text) ≡ true → IsUpTo ends (take n text) (drop n text)
up_to_at ends text zero within before at = at
up_to_at ends [] (suc n) within before at = absurd (omega arith)
up_to_at ends (byte ∷ bytes) (suc n) within before at =
    let first : ends (byte ∷ (take n bytes ++ drop n bytes)) ≡ false =
    ap (λ t. ends (byte ∷ t)) (take-append-drop n bytes) ∙ before 0 (omega arith) in
    (first, up_to_at ends bytes n (omega arith) (λ k h. before (suc k) (omega arith)) at)

-- no end, by index
pub never_at : (ends : List ℕ → Bool) (text : List ℕ) → ((k : ℕ) → k < length text → ends (drop k text) ≡ false) → NeverEnds ends text
never_at ends [] before = tt
never_at ends (byte ∷ bytes) before =
    (before 0 (omega arith), never_at ends bytes (λ k h. before (suc k) (omega arith)))

-- there is one such front
pub up_to_one : (ends : List ℕ → Bool) (a b x y : List ℕ) → IsUpTo ends a x → IsUpTo ends b y → a ++ x ≡ b ++ y → (a ≡ b) × (x ≡ y)
up_to_one ends [] [] x y h i e = (refl, e)
up_to_one ends [] (q ∷ b) x y h i e = absurd (true≢false (sym h ∙ (ap ends e ∙ i.0)))
up_to_one ends (p ∷ a) [] x y h i e = absurd (true≢false (sym i ∙ (ap ends (sym e) ∙ h.0)))
up_to_one ends (p ∷ a) (q ∷ b) x y h i e =
    let head : p ≡ q = cc in
    let tail : a ++ x ≡ b ++ y = cc in
    let both = up_to_one ends a b x y h.1 i.1 tail in
    (ap (λ (t : List ℕ). p ∷ t) both.0 ∙ ap (λ (t : ℕ). t ∷ b) head, both.1)

-- what never ends has none
pub never_up_to : (ends : List ℕ → Bool) (b : List ℕ) (c : ℕ) (cs : List ℕ) → NeverEnds ends (b ++ c ∷ cs) → IsUpTo ends b (c ∷ cs) → ⊥
never_up_to ends [] c cs h i = true≢false (sym i ∙ h.0)
never_up_to ends (q ∷ b) c cs h i = never_up_to ends b c cs h.1 i.1

-- a front that is the whole text
pub up_to_end : (ends : List ℕ → Bool) (text : List ℕ) → ((k : ℕ) → k < length text → ends (drop k text) ≡ false) → ends [] ≡ true
    → IsUpTo ends (take (length text) text) (drop (length text) text)
up_to_end ends text before at =
    up_to_at ends text (length text) (omega arith) before (ap ends (drop_all (length text) text (omega arith)) ∙ at)

pub plain_ends : ends_plain [] ≡ true
unfolding ends_plain kind_of
plain_ends = refl

pub line_ends : (text : List ℕ) (n : ℕ) → n < length text → get_or text n 0 ≡ 10 → ends_line (drop n text) ≡ true
line_ends text n within h =
    ap ends_line (drop_more text n 0 within) ∙ eq-eqb (get_or text n 0) 10 h

block_begins : (text : List ℕ) → ends_block text ≡ true → text ≡ 42 ∷ 47 ∷ drop 2 text
block_begins [] h = cc
block_begins (a ∷ []) h = cc
block_begins (a ∷ b ∷ bytes) h =
    let both = and_parts (eqb a 42) (eqb b 47) h in
    let star : a ≡ 42 = eqb-true a 42 both.0 in
    let slash : b ≡ 47 = eqb-true b 47 both.1 in
    cc

pub block_ends : (text : List ℕ) (n : ℕ) → ends_block (drop n text) ≡ true → drop n text ≡ 42 ∷ 47 ∷ drop (n + 2) text
block_ends text n h =
    block_begins (drop n text) h ∙ ap (λ (t : List ℕ). 42 ∷ 47 ∷ t) (drop-drop 2 n text)
