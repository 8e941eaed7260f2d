-- A gap grows by a piece, and there is one gap before what begins with none.
use Rattle.std.proofs.Common.{◌≡◌, ℕ, true, false, List, [], ◌∷◌, ◌++◌, refl, sym, ap, ◌∙◌, subst, append_assoc, append-nil, true≢false, ◌+◌, ◌≤◌, length, take, drop, arith, drop-drop, take-append-drop}
use Rattle.std.proofs.lemmas.List.{drop_all}
use Rattle.a2l_text.specs.declared.kind.Kind.{Kind}
use Rattle.a2l_text.specs.declared.kind.Kind.TheVariants.{Blank, LineComment, BlockComment}
use Rattle.a2l_text.specs.declared.fault.WordFault.TheVariants.{OpenComment}
use Rattle.a2l_text.specs.Kinds.{kind_of, is_gap}
use Rattle.a2l_text.specs.Fronts.{IsUpTo, NeverEnds, ends_line, ends_block}
use Rattle.a2l_text.specs.Gaps.{Piece, blank, line_comment, block_comment, piece_bytes, IsPiece, gap_bytes, AreGap, Skips, BeginsWithPiece}
use Rattle.a2l_text.specs.Faults.{IsFault}
use Rattle.a2l_text.proofs.FrontLemmas.{up_to_one, never_up_to}
use Rattle.a2l_text.proofs.KindLemmas.{begins_at, kind-blank, kind-line, kind-block, kind-nothing}

gap_bytes-push : (pieces : List Piece) (piece : Piece) (rest : List ℕ) → gap_bytes (pieces ++ piece ∷ []) ++ rest ≡ gap_bytes pieces ++ (piece_bytes piece ++ rest)
gap_bytes-push [] piece rest = ap (λ t. t ++ rest) (append-nil (piece_bytes piece))
gap_bytes-push (p ∷ ps) piece rest =
    append_assoc (piece_bytes p) (gap_bytes (ps ++ piece ∷ [])) rest
    ∙ (ap (λ t. piece_bytes p ++ t) (gap_bytes-push ps piece rest) ∙ sym (append_assoc (piece_bytes p) (gap_bytes ps) (piece_bytes piece ++ rest)))

gap_more : (pieces : List Piece) (piece : Piece) (rest : List ℕ) → AreGap pieces (piece_bytes piece ++ rest) → IsPiece piece rest → AreGap (pieces ++ piece ∷ []) rest
gap_more [] piece rest h i = (i, tt)
gap_more (p ∷ ps) piece rest h i =
    (subst (λ t. IsPiece p t) (sym (gap_bytes-push ps piece rest)) h.0, gap_more ps piece rest h.1 i)

pub skips_none : (text : List ℕ) → Skips text text
skips_none text = record { pieces = []; gap = tt; text_is = refl }

-- a gap, and behind it one more piece
pub skips_more : (text mid rest : List ℕ) → Skips text mid → BeginsWithPiece mid rest → Skips text rest
skips_more text mid rest h i = record {
  pieces = h.pieces ++ i.piece ∷ [];
  gap = gap_more h.pieces i.piece rest (subst (λ t. AreGap h.pieces t) i.begins h.gap) i.valid;
  text_is = h.text_is ∙ (ap (λ t. gap_bytes h.pieces ++ t) i.begins ∙ sym (gap_bytes-push h.pieces i.piece rest));
}

abbrev kind_of_piece : Piece → Kind
kind_of_piece (blank byte) = Blank
kind_of_piece (line_comment bytes) = LineComment
kind_of_piece (block_comment bytes) = BlockComment

kind_of-piece : (piece : Piece) (rest : List ℕ) → IsPiece piece rest → kind_of (piece_bytes piece ++ rest) ≡ kind_of_piece piece
kind_of-piece (blank byte) rest h = kind-blank byte rest h
kind_of-piece (line_comment bytes) rest h = kind-line (bytes ++ rest)
kind_of-piece (block_comment bytes) rest h = kind-block ((bytes ++ 42 ∷ 47 ∷ []) ++ rest)

piece_is_gap : (piece : Piece) → is_gap (kind_of_piece piece) ≡ true
piece_is_gap (blank byte) = refl
piece_is_gap (line_comment bytes) = refl
piece_is_gap (block_comment bytes) = refl

-- no piece of a gap is at the front
abbrev pub BeginsWithNone : List ℕ → Type 0
BeginsWithNone text = (piece : Piece) (rest : List ℕ) → IsPiece piece rest → text ≡ piece_bytes piece ++ rest → ⊥

pub none_by_kind : (text : List ℕ) → is_gap (kind_of text) ≡ false → BeginsWithNone text
none_by_kind text h piece rest i e =
    true≢false (sym (piece_is_gap piece) ∙ (ap is_gap (sym (kind_of-piece piece rest i)) ∙ (ap (λ t. is_gap (kind_of t)) (sym e) ∙ h)))

same_kind : (p q : Piece) (x y : List ℕ) → IsPiece p x → IsPiece q y → piece_bytes p ++ x ≡ piece_bytes q ++ y → kind_of_piece p ≡ kind_of_piece q
same_kind p q x y h i e = sym (kind_of-piece p x h) ∙ (ap kind_of e ∙ kind_of-piece q y i)

one_block : (a b x y : List ℕ) → IsPiece (block_comment a) x → IsPiece (block_comment b) y → (a ++ 42 ∷ 47 ∷ []) ++ x ≡ (b ++ 42 ∷ 47 ∷ []) ++ y → (a ≡ b) × (x ≡ y)
one_block a b x y h i e =
    let behind : a ++ 42 ∷ 47 ∷ x ≡ b ++ 42 ∷ 47 ∷ y =
    sym (append_assoc a (42 ∷ 47 ∷ []) x) ∙ (e ∙ append_assoc b (42 ∷ 47 ∷ []) y) in
    let both = up_to_one ends_block a b (42 ∷ 47 ∷ x) (42 ∷ 47 ∷ y) h i behind in
    let tail : 42 ∷ 47 ∷ x ≡ 42 ∷ 47 ∷ y = both.1 in
    (both.0, cc)

one_piece : (p q : Piece) (x y : List ℕ) → IsPiece p x → IsPiece q y → piece_bytes p ++ x ≡ piece_bytes q ++ y → (p ≡ q) × (x ≡ y)
one_piece (blank a) (blank b) x y h i e =
    let head : a ≡ b = cc in
    let tail : x ≡ y = cc in
    (ap blank head, tail)
one_piece (line_comment a) (line_comment b) x y h i e =
    let behind : a ++ x ≡ b ++ y = cc in
    let both = up_to_one ends_line a b x y h i behind in
    (ap line_comment both.0, both.1)
one_piece (block_comment a) (block_comment b) x y h i e =
    let behind : (a ++ 42 ∷ 47 ∷ []) ++ x ≡ (b ++ 42 ∷ 47 ∷ []) ++ y = cc in
    let both = one_block a b x y h i behind in
    (ap block_comment both.0, both.1)
one_piece (blank a) (line_comment b) x y h i e = let k = same_kind (blank a) (line_comment b) x y h i e in cc
one_piece (blank a) (block_comment b) x y h i e = let k = same_kind (blank a) (block_comment b) x y h i e in cc
one_piece (line_comment a) (blank b) x y h i e = let k = same_kind (line_comment a) (blank b) x y h i e in cc
one_piece (line_comment a) (block_comment b) x y h i e = let k = same_kind (line_comment a) (block_comment b) x y h i e in cc
one_piece (block_comment a) (blank b) x y h i e = let k = same_kind (block_comment a) (blank b) x y h i e in cc
one_piece (block_comment a) (line_comment b) x y h i e = let k = same_kind (block_comment a) (line_comment b) x y h i e in cc

one_gap : (ps qs : List Piece) (x y : List ℕ) → AreGap ps x → AreGap qs y → BeginsWithNone x → BeginsWithNone y → gap_bytes ps ++ x ≡ gap_bytes qs ++ y → x ≡ y
one_gap [] [] x y h i m n e = e
one_gap [] (q ∷ qs) x y h i m n e =
    absurd (m q (gap_bytes qs ++ y) i.0 (e ∙ append_assoc (piece_bytes q) (gap_bytes qs) y))
one_gap (p ∷ ps) [] x y h i m n e =
    absurd (n p (gap_bytes ps ++ x) h.0 (sym e ∙ append_assoc (piece_bytes p) (gap_bytes ps) x))
one_gap (p ∷ ps) (q ∷ qs) x y h i m n e =
    let apart : piece_bytes p ++ (gap_bytes ps ++ x) ≡ piece_bytes q ++ (gap_bytes qs ++ y) =
    sym (append_assoc (piece_bytes p) (gap_bytes ps) x) ∙ (e ∙ append_assoc (piece_bytes q) (gap_bytes qs) y) in
    let both = one_piece p q (gap_bytes ps ++ x) (gap_bytes qs ++ y) h.0 i.0 apart in
    one_gap ps qs x y h.1 i.1 m n both.1

-- what stands behind the gap of a text is determined
pub one_rest : (text x y : List ℕ) → Skips text x → Skips text y → BeginsWithNone x → BeginsWithNone y → x ≡ y
one_rest text x y h i m n = one_gap h.pieces i.pieces x y h.gap i.gap m n (sym h.text_is ∙ i.text_is)

-- a comment that isn't closed is no piece
pub none_at_open : (text : List ℕ) → IsFault OpenComment text → BeginsWithNone text
none_at_open text fault (blank byte) rest i e =
    let k : BlockComment ≡ Blank = sym (kind-block fault.0) ∙ (ap kind_of (sym fault.1 ∙ e) ∙ kind-blank byte rest i) in cc
none_at_open text fault (line_comment bytes) rest i e =
    let k : BlockComment ≡ LineComment = sym (kind-block fault.0) ∙ (ap kind_of (sym fault.1 ∙ e) ∙ kind-line (bytes ++ rest)) in cc
none_at_open text fault (block_comment bytes) rest i e =
    let both : 47 ∷ 42 ∷ fault.0 ≡ 47 ∷ 42 ∷ ((bytes ++ 42 ∷ 47 ∷ []) ++ rest) = sym fault.1 ∙ e in
    let behind : fault.0 ≡ (bytes ++ 42 ∷ 47 ∷ []) ++ rest = cc in
    never_up_to ends_block bytes 42 (47 ∷ rest)
    (subst (λ t. NeverEnds ends_block t) (behind ∙ append_assoc bytes (42 ∷ 47 ∷ []) rest) fault.2) i

-- the piece at the front, by its kind
pub piece_blank : (text : List ℕ) → kind_of text ≡ Blank → BeginsWithPiece text (drop 1 text)
piece_blank text h =
    let begins = begins_at text Blank h in
    record { piece = blank begins.0; valid = begins.1; begins = begins.2 }

pub piece_line : (text : List ℕ) (n : ℕ) → kind_of text ≡ LineComment
    → IsUpTo ends_line (take n (drop 2 text)) (drop n (drop 2 text)) → BeginsWithPiece text (drop (2 + n) text)
piece_line text n h line =
    let rest : drop n (drop 2 text) ≡ drop (2 + n) text = drop-drop n 2 text in
    record {
      piece = line_comment (take n (drop 2 text));
      valid = subst (λ t. IsUpTo ends_line (take n (drop 2 text)) t) rest line;
      begins = begins_at text LineComment h ∙ ap (λ (t : List ℕ). 47 ∷ 47 ∷ t)
          (sym (take-append-drop n (drop 2 text)) ∙ ap (λ t. take n (drop 2 text) ++ t) rest);
    }

pub piece_block : (text : List ℕ) (n : ℕ) → kind_of text ≡ BlockComment
    → IsUpTo ends_block (take n (drop 2 text)) (drop n (drop 2 text))
    → drop n (drop 2 text) ≡ 42 ∷ 47 ∷ drop (n + 2) (drop 2 text) → BeginsWithPiece text (drop (4 + n) text)
piece_block text n h block closed =
    let bytes : List ℕ = take n (drop 2 text) in
    let four : 2 + (n + 2) ≡ 4 + n = omega arith in
    let rest : drop (n + 2) (drop 2 text) ≡ drop (4 + n) text = drop-drop (n + 2) 2 text ∙ ap (λ k. drop k text) four in
    let closes : drop n (drop 2 text) ≡ 42 ∷ 47 ∷ drop (4 + n) text = closed ∙ ap (λ (t : List ℕ). 42 ∷ 47 ∷ t) rest in
    let spelled : drop 2 text ≡ (bytes ++ 42 ∷ 47 ∷ []) ++ drop (4 + n) text =
    sym (take-append-drop n (drop 2 text)) ∙ (ap (λ t. bytes ++ t) closes ∙ sym (append_assoc bytes (42 ∷ 47 ∷ []) (drop (4 + n) text))) in
    record {
      piece = block_comment bytes;
      valid = subst (λ t. IsUpTo ends_block bytes t) closes block;
      begins = begins_at text BlockComment h ∙ ap (λ (t : List ℕ). 47 ∷ 42 ∷ t) spelled;
    }

-- a gap goes on by a piece behind what was passed over
pub skips_on : (text part : List ℕ) (at len : ℕ) → part ≡ drop at text → BeginsWithPiece part (drop len part)
    → Skips text (drop at text) → Skips text (drop (at + len) text)
skips_on text part at len e h gap =
    let here : BeginsWithPiece (drop at text) (drop len (drop at text)) = subst (λ t. BeginsWithPiece t (drop len t)) e h in
    subst (λ t. Skips text t) (drop-drop len at text) (skips_more text (drop at text) (drop len (drop at text)) gap here)

pub no_gap_at_end : (text : List ℕ) (at : ℕ) → length text ≤ at → is_gap (kind_of (drop at text)) ≡ false
no_gap_at_end text at past = ap (λ t. is_gap (kind_of t)) (drop_all at text past) ∙ ap is_gap kind-nothing

-- a gap up to the end of a text
pub skips_to_end : (text rest end : List ℕ) (len : ℕ) → rest ≡ text → Skips rest (drop len rest) → end ≡ drop len rest → end ≡ [] → Skips text []
skips_to_end text rest end len e gap f none =
    subst (λ t. Skips t []) e (subst (λ t. Skips rest t) (sym f ∙ none) gap)
