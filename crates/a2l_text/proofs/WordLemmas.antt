-- A word before the rest of a text is determined.
use Rattle.std.proofs.Common.{◌≡◌, ◌⊎◌, ℕ, suc, ◌<◌, true, false, cond, List, [], ◌∷◌, ◌++◌, length, refl, sym, ap, ◌∙◌, subst, inl, inr, arith, append_assoc, codes, bytes_eq, zero, not, ◌+◌, ◌≤◌, take, drop, true≢false, take-append-drop, drop-drop, length-take-le}
use Rattle.std.proofs.lemmas.Slice.Eq.{bytes_eq-Decides}
use Rattle.a2l_text.specs.declared.kind.Kind.TheVariants.{Plain, Text}
use Rattle.a2l_text.specs.Kinds.{kind_of, is_gap, is_plain}
use Rattle.a2l_text.specs.Fronts.{IsUpTo, ends_plain}
use Rattle.a2l_text.specs.Tokens.{Token, begin, end, include, plain, quoted, spelling, unquoted, IsRun, IsInText, begins_with_quote, IsWord}
use Rattle.a2l_text.proofs.FrontLemmas.{up_to_one}
use Rattle.a2l_text.proofs.KindLemmas.{begins_at, kind-text, is_plain_kind}
use Rattle.a2l_text.proofs.TextLemmas.{in_text_one}

-- the word of a run of bytes
abbrev RunIs : List ℕ → Token → Type 0
RunIs bytes word = (spelling word ≡ bytes) × ((rest : List ℕ) → IsRun bytes rest → unquoted bytes ≡ word → IsWord word rest)

same : (a b : List ℕ) → bytes_eq a b ≡ true → b ≡ a
same a b h = sym ((bytes_eq-Decides a b).0 h)

run_is_end : (bytes : List ℕ) → RunIs bytes (cond (bytes_eq bytes (codes "/include")) include (plain bytes))
run_is_end bytes =
    elim (bytes_eq bytes (codes "/include")) as (λ v. bytes_eq bytes (codes "/include") ≡ v → RunIs bytes (cond v include (plain bytes))) [
      | true ↦ λ h. (same bytes (codes "/include") h, λ rest r u. subst (λ t. IsRun t rest) (sym (same bytes (codes "/include") h)) r)
      | false ↦ λ h. (refl, λ rest r u. (r, u))
    ] refl

run_is_not_begin : (bytes : List ℕ) → RunIs bytes (cond (bytes_eq bytes (codes "/end")) end (cond (bytes_eq bytes (codes "/include")) include (plain bytes)))
run_is_not_begin bytes =
    elim (bytes_eq bytes (codes "/end")) as (λ v. bytes_eq bytes (codes "/end") ≡ v → RunIs bytes (cond v end (cond (bytes_eq bytes (codes "/include")) include (plain bytes)))) [
      | true ↦ λ h. (same bytes (codes "/end") h, λ rest r u. subst (λ t. IsRun t rest) (sym (same bytes (codes "/end") h)) r)
      | false ↦ λ h. run_is_end bytes
    ] refl

run_is : (bytes : List ℕ) → RunIs bytes (unquoted bytes)
unfolding unquoted
run_is bytes =
    elim (bytes_eq bytes (codes "/begin")) as (λ v. bytes_eq bytes (codes "/begin") ≡ v → RunIs bytes (cond v begin (cond (bytes_eq bytes (codes "/end")) end (cond (bytes_eq bytes (codes "/include")) include (plain bytes))))) [
      | true ↦ λ h. (same bytes (codes "/begin") h, λ rest r u. subst (λ t. IsRun t rest) (sym (same bytes (codes "/begin") h)) r)
      | false ↦ λ h. run_is_not_begin bytes
    ] refl

pub spelling-unquoted : (bytes : List ℕ) → spelling (unquoted bytes) ≡ bytes
spelling-unquoted bytes = (run_is bytes).0

pub run_word : (bytes rest : List ℕ) → IsRun bytes rest → IsWord (unquoted bytes) rest
run_word bytes rest h = (run_is bytes).1 rest h refl

-- a word is a run of bytes or between quotes
abbrev WordIs : Token → List ℕ → Type 0
WordIs word rest = (IsRun (spelling word) rest × (unquoted (spelling word) ≡ word))
    ⊎ ((bytes : List ℕ) × (word ≡ quoted bytes) × IsInText bytes × (begins_with_quote rest ≡ false))

word_is : (word : Token) (rest : List ℕ) → IsWord word rest → WordIs word rest
unfolding unquoted
word_is begin rest h = inl (h, refl)
word_is end rest h = inl (h, refl)
word_is include rest h = inl (h, refl)
word_is (plain bytes) rest h = inl (h.0, h.1)
word_is (quoted bytes) rest h = inr (bytes, refl, h.0, h.1)

run_is_plain : (bytes rest : List ℕ) → IsRun bytes rest → kind_of (bytes ++ rest) ≡ Plain
unfolding ends_plain
run_is_plain [] rest h = absurd (omega (arith, h.not_empty))
run_is_plain (byte ∷ bytes) rest h = is_plain_kind (kind_of (byte ∷ (bytes ++ rest))) h.longest.0

quoted_is_text : (bytes rest : List ℕ) → kind_of (spelling (quoted bytes) ++ rest) ≡ Text
quoted_is_text bytes rest = kind-text ((bytes ++ 34 ∷ []) ++ rest)

behind_quote : (a b x y : List ℕ) → spelling (quoted a) ++ x ≡ spelling (quoted b) ++ y → a ++ 34 ∷ x ≡ b ++ 34 ∷ y
behind_quote a b x y e =
    let tail : (a ++ 34 ∷ []) ++ x ≡ (b ++ 34 ∷ []) ++ y = cc in
    sym (append_assoc a (34 ∷ []) x) ∙ (tail ∙ append_assoc b (34 ∷ []) y)

one_of : (v w : Token) (x y : List ℕ) → WordIs v x → WordIs w y → spelling v ++ x ≡ spelling w ++ y → (v ≡ w) × (x ≡ y)
one_of v w x y (inl h) (inl i) e =
    let both = up_to_one ends_plain (spelling v) (spelling w) x y h.0.longest i.0.longest e in
    (sym h.1 ∙ (ap unquoted both.0 ∙ i.1), both.1)
one_of v w x y (inl h) (inr i) e =
    let kinds : Plain ≡ Text = sym (run_is_plain (spelling v) x h.0) ∙ (ap kind_of e ∙ (ap (λ t. kind_of (spelling t ++ y)) i.1 ∙ quoted_is_text i.0 y)) in cc
one_of v w x y (inr h) (inl i) e =
    let kinds : Plain ≡ Text = sym (run_is_plain (spelling w) y i.0) ∙ (ap kind_of (sym e) ∙ (ap (λ t. kind_of (spelling t ++ x)) h.1 ∙ quoted_is_text h.0 x)) in cc
one_of v w x y (inr h) (inr i) e =
    let same_text : spelling (quoted h.0) ++ x ≡ spelling (quoted i.0) ++ y =
    sym (ap (λ t. spelling t ++ x) h.1) ∙ (e ∙ ap (λ t. spelling t ++ y) i.1) in
    let both = in_text_one h.0 i.0 x y h.2 i.2 h.3 i.3 (behind_quote h.0 i.0 x y same_text) in
    (h.1 ∙ (ap quoted both.0 ∙ sym i.1), both.1)

pub one_word : (v w : Token) (x y : List ℕ) → IsWord v x → IsWord w y → spelling v ++ x ≡ spelling w ++ y → (v ≡ w) × (x ≡ y)
one_word v w x y h i e = one_of v w x y (word_is v x h) (word_is w y i) e

-- a word is no gap
kind_of_word : (word : Token) (rest : List ℕ) → WordIs word rest → is_gap (kind_of (spelling word ++ rest)) ≡ false
kind_of_word word rest (inl h) = ap is_gap (run_is_plain (spelling word) rest h.0)
kind_of_word word rest (inr h) = ap (λ t. is_gap (kind_of (spelling t ++ rest))) h.1 ∙ ap is_gap (quoted_is_text h.0 rest)

pub word_is_no_gap : (word : Token) (rest : List ℕ) → IsWord word rest → is_gap (kind_of (spelling word ++ rest)) ≡ false
word_is_no_gap word rest h = kind_of_word word rest (word_is word rest h)

-- what a word's bytes begin with: a plain byte, or a quote
abbrev pub WordBegins : List ℕ → List ℕ → Type 0
WordBegins from rest = (kind_of from ≡ Plain)
    ⊎ ((bytes : List ℕ) × (from ≡ 34 ∷ (bytes ++ 34 ∷ rest)) × IsInText bytes × (begins_with_quote rest ≡ false))

begins_of : (word : Token) (rest : List ℕ) → WordIs word rest → WordBegins (spelling word ++ rest) rest
begins_of word rest (inl h) = inl (run_is_plain (spelling word) rest h.0)
begins_of word rest (inr h) =
    inr (h.0, ap (λ t. spelling t ++ rest) h.1 ∙ ap (λ (t : List ℕ). 34 ∷ t) (append_assoc h.0 (34 ∷ []) rest), h.2, h.3)

pub word_begins : (word : Token) (rest : List ℕ) → IsWord word rest → WordBegins (spelling word ++ rest) rest
word_begins word rest h = begins_of word rest (word_is word rest h)

-- a plain byte begins a run
pub run_has_bytes : (text : List ℕ) (n : ℕ) → kind_of text ≡ Plain → IsUpTo ends_plain (take n text) (drop n text) → 0 < n
unfolding ends_plain
run_has_bytes text zero h run = absurd (true≢false (sym run ∙ ap (λ k. not (is_plain k)) h))
run_has_bytes text (suc n) h run = omega arith

pub run_spelled : (text run : List ℕ) (n : ℕ) (word : Token) → word ≡ unquoted run → run ≡ take n text → text ≡ spelling word ++ drop n text
run_spelled text run n word e f =
    let spelled : spelling word ≡ take n text = ap spelling e ∙ (spelling-unquoted run ∙ f) in
    sym (take-append-drop n text) ∙ ap (λ t. t ++ drop n text) (sym spelled)

pub run_valid : (text run : List ℕ) (n : ℕ) (word : Token) → word ≡ unquoted run → run ≡ take n text → n ≤ length text
    → kind_of text ≡ Plain → IsUpTo ends_plain (take n text) (drop n text) → IsWord word (drop n text)
run_valid text run n word e f within kind longest =
    let some : 0 < length (take n text) = omega (arith, length-take-le n text within, run_has_bytes text n kind longest) in
    let is_run : IsRun (take n text) (drop n text) = record { not_empty = some; longest = longest } in
    subst (λ w. IsWord w (drop n text)) (sym (e ∙ ap unquoted f)) (run_word (take n text) (drop n text) is_run)

behind_text : (text : List ℕ) (n : ℕ) → drop (n + 1) (drop 1 text) ≡ drop (n + 2) text
behind_text text n =
    let two : 1 + (n + 1) ≡ n + 2 = omega arith in
    drop-drop (n + 1) 1 text ∙ ap (λ k. drop k text) two

pub quoted_spelled : (text : List ℕ) (n : ℕ) → kind_of text ≡ Text → drop n (drop 1 text) ≡ 34 ∷ drop (n + 1) (drop 1 text)
    → text ≡ spelling (quoted (take n (drop 1 text))) ++ drop (n + 2) text
quoted_spelled text n kind closed =
    let bytes : List ℕ = take n (drop 1 text) in
    let inside : drop 1 text ≡ (bytes ++ 34 ∷ []) ++ drop (n + 2) text =
    sym (take-append-drop n (drop 1 text))
    ∙ (ap (λ t. bytes ++ t) (closed ∙ ap (λ (t : List ℕ). 34 ∷ t) (behind_text text n)) ∙ sym (append_assoc bytes (34 ∷ []) (drop (n + 2) text))) in
    begins_at text Text kind ∙ ap (λ (t : List ℕ). 34 ∷ t) inside

pub quoted_valid : (text : List ℕ) (n : ℕ) → IsInText (take n (drop 1 text)) → begins_with_quote (drop (n + 1) (drop 1 text)) ≡ false
    → IsWord (quoted (take n (drop 1 text))) (drop (n + 2) text)
quoted_valid text n inside alone = (inside, ap begins_with_quote (sym (behind_text text n)) ∙ alone)
