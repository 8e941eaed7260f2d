-- A text has one reading.
use Rattle.std.proofs.Common.{◌≡◌, ℕ, List, [], ◌∷◌, ◌++◌, refl, sym, ap, ◌∙◌, subst, inl, inr}
use Rattle.a2l_text.specs.declared.fault.WordFault.{WordFault}
use Rattle.a2l_text.specs.declared.fault.WordFault.TheVariants.{OpenText, OpenComment}
use Rattle.a2l_text.specs.declared.kind.Kind.TheVariants.{Nothing, Plain, Text, BlockComment}
use Rattle.a2l_text.specs.Kinds.{kind_of, is_gap}
use Rattle.a2l_text.specs.Tokens.{Token, spelling, IsWord}
use Rattle.a2l_text.specs.Faults.{IsOpenText, IsFault}
use Rattle.a2l_text.specs.Words.{AreWords}
use Rattle.a2l_text.specs.Laws.{OneWordIsNext, NoWordAtTheEnd, NoWordAtAFault, NoEndAtAFault, OneFault, OneListOfWords}
use Rattle.a2l_text.proofs.KindLemmas.{kind-text, kind-block, kind-nothing}
use Rattle.a2l_text.proofs.GapLemmas.{BeginsWithNone, none_by_kind, none_at_open, one_rest}
use Rattle.a2l_text.proofs.TextLemmas.{closed_or_open}
use Rattle.a2l_text.proofs.WordLemmas.{one_word, word_is_no_gap, WordBegins, word_begins}

none_at_word : (word : Token) (rest : List ℕ) → IsWord word rest → BeginsWithNone (spelling word ++ rest)
none_at_word word rest h = none_by_kind (spelling word ++ rest) (word_is_no_gap word rest h)

none_at_end : BeginsWithNone []
none_at_end = none_by_kind [] (ap is_gap kind-nothing)

none_at_fault : (fault : WordFault) (from : List ℕ) → IsFault fault from → BeginsWithNone from
none_at_fault OpenText from h = none_by_kind from (ap (λ t. is_gap (kind_of t)) h.1 ∙ ap is_gap (kind-text h.0))
none_at_fault OpenComment from h = none_at_open from h

no_quote_at_slash : (a b : List ℕ) → 34 ∷ a ≡ 47 ∷ 42 ∷ b → ⊥
no_quote_at_slash a b e = cc

same_behind : (a b : List ℕ) → 34 ∷ a ≡ 34 ∷ b → a ≡ b
same_behind a b e = cc

no_kind : (from : List ℕ) → kind_of from ≡ Plain → kind_of from ≡ Text → ⊥
no_kind from h i = let kinds : Plain ≡ Text = sym h ∙ i in cc

no_comment : (from : List ℕ) → kind_of from ≡ Plain → kind_of from ≡ BlockComment → ⊥
no_comment from h i = let kinds : Plain ≡ BlockComment = sym h ∙ i in cc

-- each kind of what may stand behind a gap excludes the others
no_fault : (fault : WordFault) (from rest : List ℕ) → WordBegins from rest → IsFault fault from → ⊥
no_fault OpenText from rest (inl h) i = no_kind from h (ap kind_of i.1 ∙ kind-text i.0)
no_fault OpenText from rest (inr h) i =
    closed_or_open h.0 rest h.2 h.3 (subst IsOpenText (same_behind i.0 (h.0 ++ 34 ∷ rest) (sym i.1 ∙ h.1)) i.2)
no_fault OpenComment from rest (inl h) i = no_comment from h (ap kind_of i.1 ∙ kind-block i.0)
no_fault OpenComment from rest (inr h) i = no_quote_at_slash (h.0 ++ 34 ∷ rest) i.0 (sym h.1 ∙ i.1)

no_fault_at_word : (fault : WordFault) (word : Token) (rest : List ℕ) → IsWord word rest → IsFault fault (spelling word ++ rest) → ⊥
no_fault_at_word fault word rest h i = no_fault fault (spelling word ++ rest) rest (word_begins word rest h) i

no_fault_at_end : (fault : WordFault) → IsFault fault [] → ⊥
no_fault_at_end OpenText h = let e = h.1 in cc
no_fault_at_end OpenComment h = let e = h.1 in cc

no_word : (from rest : List ℕ) → WordBegins from rest → from ≡ [] → ⊥
no_word from rest (inl h) e = let kinds : Plain ≡ Nothing = sym h ∙ (ap kind_of e ∙ kind-nothing) in cc
no_word from rest (inr h) e = let both : 34 ∷ (h.0 ++ 34 ∷ rest) ≡ [] = sym h.1 ∙ e in cc

no_word_at_end : (word : Token) (rest : List ℕ) → IsWord word rest → spelling word ++ rest ≡ [] → ⊥
no_word_at_end word rest h e = no_word (spelling word ++ rest) rest (word_begins word rest h) e

same_fault : (fault other : WordFault) (from : List ℕ) → IsFault fault from → IsFault other from → fault ≡ other
same_fault OpenText OpenText from h i = refl
same_fault OpenText OpenComment from h i = let e : 34 ∷ h.0 ≡ 47 ∷ 42 ∷ i.0 = sym h.1 ∙ i.1 in cc
same_fault OpenComment OpenText from h i = let e : 34 ∷ i.0 ≡ 47 ∷ 42 ∷ h.0 = sym i.1 ∙ h.1 in cc
same_fault OpenComment OpenComment from h i = refl

pub one_word_is_next : OneWordIsNext
one_word_is_next text word other rest left h i =
    one_word word other rest left h.valid i.valid
    (one_rest text (spelling word ++ rest) (spelling other ++ left) h.gap i.gap (none_at_word word rest h.valid) (none_at_word other left i.valid))

pub no_word_at_the_end : NoWordAtTheEnd
no_word_at_the_end text word rest h i =
    no_word_at_end word rest h.valid (one_rest text (spelling word ++ rest) [] h.gap i (none_at_word word rest h.valid) none_at_end)

pub no_word_at_a_fault : NoWordAtAFault
no_word_at_a_fault text fault from word rest h i =
    let e = one_rest text from (spelling word ++ rest) h.gap i.gap (none_at_fault fault from h.fault_is) (none_at_word word rest i.valid) in
    no_fault_at_word fault word rest i.valid (subst (λ t. IsFault fault t) e h.fault_is)

pub no_end_at_a_fault : NoEndAtAFault
no_end_at_a_fault text fault from h i =
    let e = one_rest text from [] h.gap i (none_at_fault fault from h.fault_is) none_at_end in
    no_fault_at_end fault (subst (λ t. IsFault fault t) e h.fault_is)

pub one_fault : OneFault
one_fault text fault other from place h i =
    let e = one_rest text from place h.gap i.gap (none_at_fault fault from h.fault_is) (none_at_fault other place i.fault_is) in
    (same_fault fault other place (subst (λ t. IsFault fault t) e h.fault_is) i.fault_is, e)

pub one_list : OneListOfWords
one_list text [] [] h i = refl
one_list text [] (v ∷ vs) h i = absurd (no_word_at_the_end text v i.0 i.1 h)
one_list text (w ∷ ws) [] h i = absurd (no_word_at_the_end text w h.0 h.1 i)
one_list text (w ∷ ws) (v ∷ vs) h i =
    let both = one_word_is_next text w v h.0 i.0 h.1 i.1 in
    let rests = one_list h.0 ws vs h.2 (subst (λ t. AreWords t vs) (sym both.1) i.2) in
    ap (λ t. t ∷ ws) both.0 ∙ ap (λ t. v ∷ t) rests
