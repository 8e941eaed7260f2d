-- What stands between quotes, letter by letter.
use Rattle.std.proofs.Common.{◌≡◌, ◌≢◌, ℕ, ◌<◌, ◌≤◌, ◌+◌, true, false, cond, List, [], ◌∷◌, ◌++◌, length, take, drop, refl, sym, ap, ◌∙◌, subst, inl, inr, arith, eqb, eqb-true, take-append-drop, append-nil, take_all, take-add, take_at, length-drop, drop-drop}
use Rattle.std.proofs.lemmas.Bool.{eqb-false}
use Rattle.a2l_text.specs.declared.in_text.Letter.{Letter}
use Rattle.a2l_text.specs.declared.in_text.Letter.TheVariants.{Own, Pair, Closing, Backslash}
use Rattle.a2l_text.specs.Letters.{letter_of}
use Rattle.a2l_text.specs.Tokens.{IsOwn, IsPair, IsInText, begins_with_quote}
use Rattle.a2l_text.specs.Faults.{IsOpenText}

pub in_text-append : (xs ys : List ℕ) → IsInText xs → IsInText ys → IsInText (xs ++ ys)
in_text-append [] ys h i = i
in_text-append (x ∷ []) [] h i = h
in_text-append (x ∷ []) (y ∷ ys) h i = inl (h, i)
in_text-append (w ∷ x ∷ xs) ys (inl h) i = inl (h.0, in_text-append (x ∷ xs) ys h.1 i)
in_text-append (w ∷ x ∷ xs) ys (inr h) i = inr (h.0, in_text-append xs ys h.1 i)

pub open_text-append : (xs ys : List ℕ) → IsInText xs → IsOpenText ys → IsOpenText (xs ++ ys)
open_text-append [] ys h i = i
open_text-append (x ∷ []) [] h i = h.0
open_text-append (x ∷ []) (y ∷ ys) h i = inl (h, i)
open_text-append (w ∷ x ∷ xs) ys (inl h) i = inl (h.0, open_text-append (x ∷ xs) ys h.1 i)
open_text-append (w ∷ x ∷ xs) ys (inr h) i = inr (h.0, open_text-append xs ys h.1 i)

-- the bytes of a letter
abbrev pub IsLetter : Letter → List ℕ → Type 0
IsLetter Own text = (byte : ℕ) × IsOwn byte × (text ≡ byte ∷ drop 1 text)
IsLetter Pair text = (first : ℕ) × (second : ℕ) × IsPair first second × (text ≡ first ∷ second ∷ drop 2 text)
IsLetter Closing text = (text ≡ 34 ∷ drop 1 text) × (begins_with_quote (drop 1 text) ≡ false)
IsLetter Backslash text = text ≡ 92 ∷ []

last_quote : (byte : ℕ) → byte ≢ 92 → IsLetter (cond (eqb byte 34) Closing Own) (byte ∷ [])
last_quote byte n =
    elim (eqb byte 34) as (λ v. eqb byte 34 ≡ v → IsLetter (cond v Closing Own) (byte ∷ [])) [
      | true ↦ λ h. (ap (λ (b : ℕ). b ∷ []) (eqb-true byte 34 h), refl)
      | false ↦ λ h. (byte, (eqb-false byte 34 h, n), refl)
    ] refl

second_quote : (first second : ℕ) (bytes : List ℕ) → first ≡ 34 → IsLetter (cond (eqb second 34) Pair Closing) (first ∷ second ∷ bytes)
second_quote first second bytes f =
    elim (eqb second 34) as (λ v. eqb second 34 ≡ v → IsLetter (cond v Pair Closing) (first ∷ second ∷ bytes)) [
      | true ↦ λ h. (first, second, inr (f, eqb-true second 34 h), refl)
      | false ↦ λ h. (ap (λ (b : ℕ). b ∷ second ∷ bytes) f, h)
    ] refl

first_quote : (first second : ℕ) (bytes : List ℕ) → first ≢ 92 → IsLetter (cond (eqb first 34) (cond (eqb second 34) Pair Closing) Own) (first ∷ second ∷ bytes)
first_quote first second bytes n =
    elim (eqb first 34) as (λ v. eqb first 34 ≡ v → IsLetter (cond v (cond (eqb second 34) Pair Closing) Own) (first ∷ second ∷ bytes)) [
      | true ↦ λ h. second_quote first second bytes (eqb-true first 34 h)
      | false ↦ λ h. (first, (eqb-false first 34 h, n), refl)
    ] refl

pub is_letter : (text : List ℕ) → 0 < length text → IsLetter (letter_of text) text
is_letter [] some = absurd (omega arith)
is_letter (byte ∷ []) some =
    elim (eqb byte 92) as (λ v. eqb byte 92 ≡ v → IsLetter (cond v Backslash (cond (eqb byte 34) Closing Own)) (byte ∷ [])) [
      | true ↦ λ h. ap (λ (b : ℕ). b ∷ []) (eqb-true byte 92 h)
      | false ↦ λ h. last_quote byte (eqb-false byte 92 h)
    ] refl
is_letter (first ∷ second ∷ bytes) some =
    elim (eqb first 92) as (λ v. eqb first 92 ≡ v → IsLetter (cond v Pair (cond (eqb first 34) (cond (eqb second 34) Pair Closing) Own)) (first ∷ second ∷ bytes)) [
      | true ↦ λ h. (first, second, inl (eqb-true first 92 h), refl)
      | false ↦ λ h. first_quote first second bytes (eqb-false first 92 h)
    ] refl

-- the letter behind what was passed over
pub letter_here : (text part : List ℕ) (n : ℕ) (letter found : Letter) → n < length text → part ≡ drop n text → found ≡ letter_of part → found ≡ letter
    → IsLetter letter (drop n text)
letter_here text part n letter found within e f g =
    let some : 0 < length (drop n text) = omega (arith, length-drop n text) in
    let is : letter_of (drop n text) ≡ letter = sym (f ∙ ap letter_of e) ∙ g in
    subst (λ l. IsLetter l (drop n text)) is (is_letter (drop n text) some)

pub pair_within : (text : List ℕ) (n : ℕ) → IsLetter Pair (drop n text) → n + 2 ≤ length text
pair_within text n h = omega (arith, length-drop n text, ap length h.3)

pub closes_here : (text : List ℕ) (n : ℕ) → IsLetter Closing (drop n text) → drop n text ≡ 34 ∷ drop (n + 1) text
closes_here text n h = h.0 ∙ ap (λ (t : List ℕ). 34 ∷ t) (drop-drop 1 n text)

pub alone_here : (text : List ℕ) (n : ℕ) → IsLetter Closing (drop n text) → begins_with_quote (drop (n + 1) text) ≡ false
alone_here text n h = ap begins_with_quote (sym (drop-drop 1 n text)) ∙ h.1

-- more bytes of what begins at n
take_letter : (text ys zs : List ℕ) (n : ℕ) → drop n text ≡ ys ++ zs → take (n + length ys) text ≡ take n text ++ ys
take_letter text ys zs n e =
    take-add n (length ys) text ∙ ap (λ t. take n text ++ t) (ap (take (length ys)) e ∙ take_at ys zs (length ys) refl)

-- a text goes on by a letter
pub in_text_own : (text : List ℕ) (n : ℕ) → IsInText (take n text) → IsLetter Own (drop n text) → IsInText (take (n + 1) text)
in_text_own text n h i =
    subst IsInText (sym (take_letter text (i.0 ∷ []) (drop 1 (drop n text)) n i.2)) (in_text-append (take n text) (i.0 ∷ []) h i.1)

pub in_text_pair : (text : List ℕ) (n : ℕ) → IsInText (take n text) → IsLetter Pair (drop n text) → IsInText (take (n + 2) text)
in_text_pair text n h i =
    subst IsInText (sym (take_letter text (i.0 ∷ i.1 ∷ []) (drop 2 (drop n text)) n i.3)) (in_text-append (take n text) (i.0 ∷ i.1 ∷ []) h (inr (i.2, tt)))

pub open_at_end : (text : List ℕ) (n : ℕ) → length text ≤ n → IsInText (take n text) → IsOpenText text
open_at_end text n past h =
    subst IsOpenText (append-nil text) (open_text-append text [] (subst IsInText (take_all n text past) h) tt)

pub open_at_backslash : (text : List ℕ) (n : ℕ) → IsInText (take n text) → IsLetter Backslash (drop n text) → IsOpenText text
open_at_backslash text n h i =
    let whole : take n text ++ 92 ∷ [] ≡ text = ap (λ t. take n text ++ t) (sym i) ∙ take-append-drop n text in
    subst IsOpenText whole (open_text-append (take n text) (92 ∷ []) h (λ e. absurd (omega (arith, e))))

-- a quote behind the closing one
no_quote : (x : List ℕ) (r : ℕ) (zs : List ℕ) → begins_with_quote x ≡ false → x ≡ r ∷ zs → r ≡ 34 → ⊥
no_quote x r zs m e f =
    let head : eqb r 34 ≡ false = sym (ap begins_with_quote e) ∙ m in
    eqb-false r 34 head f

no_pair : (x zs : List ℕ) (q r : ℕ) → begins_with_quote x ≡ false → IsPair q r → q ≡ 34 → x ≡ r ∷ zs → ⊥
no_pair x zs q r m (inl p) f e = omega (arith, p, f)
no_pair x zs q r m (inr p) f e = no_quote x r zs m e p.1

no_own_pair : (p q r : ℕ) → IsOwn p → IsPair q r → p ≡ q → ⊥
no_own_pair p q r o (inl h) e = o.1 (e ∙ h)
no_own_pair p q r o (inr h) e = o.0 (e ∙ h.0)

front : (p : ℕ) (a b : List ℕ) (q : ℕ) → p ≡ q → a ≡ b → p ∷ a ≡ q ∷ b
front p a b q e f = cc

-- there is one text up to its closing quote
pub in_text_one : (a b x y : List ℕ) → IsInText a → IsInText b → begins_with_quote x ≡ false → begins_with_quote y ≡ false
    → a ++ 34 ∷ x ≡ b ++ 34 ∷ y → (a ≡ b) × (x ≡ y)
in_text_one [] [] x y h i m n e = let tail : x ≡ y = cc in (refl, tail)
in_text_one [] (q ∷ []) x y h i m n e = let head : q ≡ 34 = cc in absurd (i.0 head)
in_text_one [] (q ∷ r ∷ b) x y h (inl i) m n e = let head : q ≡ 34 = cc in absurd (i.0.0 head)
in_text_one [] (q ∷ r ∷ b) x y h (inr i) m n e =
    let head : q ≡ 34 = cc in
    let tail : x ≡ r ∷ (b ++ 34 ∷ y) = cc in
    absurd (no_pair x (b ++ 34 ∷ y) q r m i.0 head tail)
in_text_one (p ∷ []) [] x y h i m n e = let head : p ≡ 34 = cc in absurd (h.0 head)
in_text_one (p ∷ []) (q ∷ []) x y h i m n e =
    let head : p ≡ q = cc in
    let tail : x ≡ y = cc in
    (front p [] [] q head refl, tail)
in_text_one (p ∷ []) (q ∷ r ∷ b) x y h (inl i) m n e =
    let head : p ≡ q = cc in
    let tail : 34 ∷ x ≡ r ∷ (b ++ 34 ∷ y) = cc in
    let both = in_text_one [] (r ∷ b) x y tt i.1 m n tail in
    (front p [] (r ∷ b) q head both.0, both.1)
in_text_one (p ∷ []) (q ∷ r ∷ b) x y h (inr i) m n e =
    let head : p ≡ q = cc in
    absurd (no_own_pair p q r h i.0 head)
in_text_one (o ∷ p ∷ a) [] x y (inl h) i m n e = let head : o ≡ 34 = cc in absurd (h.0.0 head)
in_text_one (o ∷ p ∷ a) [] x y (inr h) i m n e =
    let head : o ≡ 34 = cc in
    let tail : y ≡ p ∷ (a ++ 34 ∷ x) = cc in
    absurd (no_pair y (a ++ 34 ∷ x) o p n h.0 head tail)
in_text_one (o ∷ p ∷ a) (q ∷ []) x y (inl h) i m n e =
    let head : o ≡ q = cc in
    let tail : p ∷ (a ++ 34 ∷ x) ≡ 34 ∷ y = cc in
    let both = in_text_one (p ∷ a) [] x y h.1 tt m n tail in
    (front o (p ∷ a) [] q head both.0, both.1)
in_text_one (o ∷ p ∷ a) (q ∷ []) x y (inr h) i m n e =
    let head : q ≡ o = cc in
    absurd (no_own_pair q o p i h.0 head)
in_text_one (o ∷ p ∷ a) (q ∷ r ∷ b) x y (inl h) (inl i) m n e =
    let head : o ≡ q = cc in
    let tail : p ∷ (a ++ 34 ∷ x) ≡ r ∷ (b ++ 34 ∷ y) = cc in
    let both = in_text_one (p ∷ a) (r ∷ b) x y h.1 i.1 m n tail in
    (front o (p ∷ a) (r ∷ b) q head both.0, both.1)
in_text_one (o ∷ p ∷ a) (q ∷ r ∷ b) x y (inl h) (inr i) m n e =
    let head : o ≡ q = cc in
    absurd (no_own_pair o q r h.0 i.0 head)
in_text_one (o ∷ p ∷ a) (q ∷ r ∷ b) x y (inr h) (inl i) m n e =
    let head : q ≡ o = cc in
    absurd (no_own_pair q o p i.0 h.0 head)
in_text_one (o ∷ p ∷ a) (q ∷ r ∷ b) x y (inr h) (inr i) m n e =
    let head : o ≡ q = cc in
    let next : p ≡ r = cc in
    let tail : a ++ 34 ∷ x ≡ b ++ 34 ∷ y = cc in
    let both = in_text_one a b x y h.1 i.1 m n tail in
    (front o (p ∷ a) (r ∷ b) q head (front p a b r next both.0), both.1)

-- what is closed doesn't go on to the end
pub closed_or_open : (a x : List ℕ) → IsInText a → begins_with_quote x ≡ false → IsOpenText (a ++ 34 ∷ x) → ⊥
closed_or_open [] [] h m i = i refl
closed_or_open [] (y ∷ x) h m (inl i) = i.0.0 refl
closed_or_open [] (y ∷ x) h m (inr i) = no_pair (y ∷ x) x 34 y m i.0 refl refl
closed_or_open (p ∷ []) x h m (inl i) = closed_or_open [] x tt m i.1
closed_or_open (p ∷ []) x h m (inr i) = no_own_pair p p 34 h i.0 refl
closed_or_open (o ∷ p ∷ a) x (inl h) m (inl i) = closed_or_open (p ∷ a) x h.1 m i.1
closed_or_open (o ∷ p ∷ a) x (inl h) m (inr i) = no_own_pair o o p h.0 i.0 refl
closed_or_open (o ∷ p ∷ a) x (inr h) m (inl i) = no_own_pair o o p i.0 h.0 refl
closed_or_open (o ∷ p ∷ a) x (inr h) m (inr i) = closed_or_open a x h.1 m i.1
