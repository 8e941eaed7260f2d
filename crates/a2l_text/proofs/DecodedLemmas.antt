-- What a text says, one byte more at a time.
use Rattle.std.proofs.Common.{◌≡◌, ℕ, ◌<◌, ◌+◌, true, false, cond, List, [], ◌∷◌, ◌++◌, length, take, get_or, ap, ◌∙◌, refl, sym, append_assoc, append-nil, encode_utf8, encode_utf8_all}
use Rattle.std.proofs.lemmas.List.{nil_from_length, take_more}
use Rattle.a2l_text.specs.Texts.{is_pair, escaped, unescaped}

pub says_last : (text behind : List ℕ) (first : ℕ) → text ≡ first ∷ behind → length behind ≡ 0 → unescaped text ≡ first ∷ unescaped behind
unfolding unescaped
says_last text behind first e none =
    let empty : behind ≡ [] = nil_from_length behind none in
    ap unescaped (e ∙ ap (λ (t : List ℕ). first ∷ t) empty) ∙ ap (λ (t : List ℕ). first ∷ unescaped t) (sym empty)

says_two : (first second : ℕ) (rest : List ℕ) → unescaped (first ∷ second ∷ rest)
    ≡ cond (is_pair first second) (escaped second ∷ unescaped rest) (first ∷ unescaped (second ∷ rest))
unfolding unescaped
says_two first second rest = refl

pub says_pair : (text behind rest : List ℕ) (first second : ℕ) → text ≡ first ∷ behind → behind ≡ second ∷ rest → is_pair first second ≡ true
    → unescaped text ≡ escaped second ∷ unescaped rest
says_pair text behind rest first second e f h =
    ap unescaped (e ∙ ap (λ (t : List ℕ). first ∷ t) f)
    ∙ (says_two first second rest ∙ ap (λ b. cond b (escaped second ∷ unescaped rest) (first ∷ unescaped (second ∷ rest))) h)

pub says_own : (text behind rest : List ℕ) (first second : ℕ) → text ≡ first ∷ behind → behind ≡ second ∷ rest → is_pair first second ≡ false
    → unescaped text ≡ first ∷ unescaped behind
says_own text behind rest first second e f h =
    ap unescaped (e ∙ ap (λ (t : List ℕ). first ∷ t) f)
    ∙ (says_two first second rest ∙ (ap (λ b. cond b (escaped second ∷ unescaped rest) (first ∷ unescaped (second ∷ rest))) h
    ∙ ap (λ (t : List ℕ). first ∷ unescaped t) (sym f)))

encode_push : (cs : List ℕ) (c : ℕ) → encode_utf8_all (cs ++ c ∷ []) ≡ encode_utf8_all cs ++ encode_utf8 c
encode_push [] c = append-nil (encode_utf8 c)
encode_push (x ∷ cs) c =
    ap (λ t. encode_utf8 x ++ t) (encode_push cs c) ∙ sym (append_assoc (encode_utf8 x) (encode_utf8_all cs) (encode_utf8 c))

pub encode_more : (bs : List ℕ) (i c : ℕ) → i < length bs → c ≡ get_or bs i 0
    → encode_utf8_all (take (i + 1) bs) ≡ encode_utf8_all (take i bs) ++ encode_utf8 c
encode_more bs i c within e =
    ap encode_utf8_all (take_more bs i 0 within ∙ ap (λ (x : ℕ). take i bs ++ x ∷ []) (sym e)) ∙ encode_push (take i bs) c

pub all_said : (said rest all : List ℕ) → said ++ unescaped rest ≡ all → rest ≡ [] → said ≡ all
unfolding unescaped
all_said said rest all e none =
    sym (append-nil said) ∙ (ap (λ t. said ++ unescaped t) (sym none) ∙ e)
