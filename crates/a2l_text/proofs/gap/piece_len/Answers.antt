use Rattle.std.proofs.Common.{◌≡◌, ◌∷◌, ◌+◌, length, take, drop, sym, ap, ◌∙◌, subst, arith, length-drop}
use Rattle.a2l_text.specs.declared.kind.Kind.TheVariants.{Blank, LineComment, BlockComment}
use Rattle.a2l_text.specs.Fronts.{IsUpTo, NeverEnds, ends_line, ends_block}
use Rattle.a2l_text.proofs.KindLemmas.{begins_at, one_at, two_at}
use Rattle.a2l_text.proofs.GapLemmas.{piece_blank, piece_line, piece_block}
use Rattle.a2l_text.proofs.gap.piece_len.Goals as goal

-- two slashes are there
pub behind-requires : goal.behind-requires
behind-requires c =
    two_at c.args.text.now 47 47 (begins_at c.args.text.now LineComment (sym c.kind_at.ensures ∙ c.in-LineComment.is))

-- a slash and a star are there
pub behind-requires-in-BlockComment : goal.behind-requires-in-BlockComment
behind-requires-in-BlockComment c =
    two_at c.args.text.now 47 42 (begins_at c.args.text.now BlockComment (sym c.kind_at.ensures ∙ c.in-BlockComment.is))

-- nothing ends the comment
pub returns-in_err-block_len-in-BlockComment-clause-fault : goal.returns-in_err-block_len-in-BlockComment-clause-fault
returns-in_err-block_len-in-BlockComment-clause-fault c =
    let open_comment = subst (λ t. NeverEnds ends_block t) c.behind-in-BlockComment.ensures c.in_err-block_len-in-BlockComment.ensures.none in
    rw c.from_residual.ensures (drop 2 c.args.text.now, begins_at c.args.text.now BlockComment (sym c.kind_at.ensures ∙ c.in-BlockComment.is), open_comment)

-- a blank is a byte
pub returns-in-Blank-clause-within : goal.returns-in-Blank-clause-within
returns-in-Blank-clause-within c =
    let begins = begins_at c.args.text.now Blank (sym c.kind_at.ensures ∙ c.in-Blank.is) in one_at c.args.text.now begins.0 begins.2

-- the blank is the piece
pub returns-in-Blank-clause-piece : goal.returns-in-Blank-clause-piece
returns-in-Blank-clause-piece c =
    λ some. piece_blank c.args.text.now (sym c.kind_at.ensures ∙ c.in-Blank.is)

-- the line is within what stands behind the slashes
pub returns-in-LineComment-clause-within : goal.returns-in-LineComment-clause-within
returns-in-LineComment-clause-within c =
    omega (arith, c.line_len.ensures.within, ap length c.behind.ensures, length-drop 2 c.args.text.now, two_at c.args.text.now 47 47 (begins_at c.args.text.now LineComment (sym c.kind_at.ensures ∙ c.in-LineComment.is)))

-- the comment is the piece
pub returns-in-LineComment-clause-piece : goal.returns-in-LineComment-clause-piece
returns-in-LineComment-clause-piece c =
    λ some. piece_line c.args.text.now c.line_len.result (sym c.kind_at.ensures ∙ c.in-LineComment.is)
    (subst (λ t. IsUpTo ends_line (take c.line_len.result t) (drop c.line_len.result t)) c.behind.ensures c.line_len.ensures.line)

-- the comment is the piece
pub returns-in_ok-block_len-in-BlockComment-clause-piece : goal.returns-in_ok-block_len-in-BlockComment-clause-piece
returns-in_ok-block_len-in-BlockComment-clause-piece c =
    let n = c.in_ok-block_len-in-BlockComment.field-0 in
    let block = c.in_ok-block_len-in-BlockComment.ensures.block in
    λ some. piece_block c.args.text.now n (sym c.kind_at.ensures ∙ c.in-BlockComment.is)
    (subst (λ t. IsUpTo ends_block (take n t) (drop n t)) c.behind-in-BlockComment.ensures block.0)
    (subst (λ t. drop n t ≡ 42 ∷ 47 ∷ drop (n + 2) t) c.behind-in-BlockComment.ensures block.1)
