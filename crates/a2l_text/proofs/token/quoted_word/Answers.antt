use Rattle.std.proofs.Common.{◌≡◌, ◌+◌, ◌∷◌, ◌++◌, false, take, drop, sym, ap, ◌∙◌, subst}
use Rattle.a2l_text.specs.declared.kind.Kind.TheVariants.{Text}
use Rattle.a2l_text.specs.Tokens.{quoted, spelling, IsInText, begins_with_quote, IsWord}
use Rattle.a2l_text.specs.Faults.{IsOpenText}
use Rattle.a2l_text.proofs.KindLemmas.{begins_at, one_at}
use Rattle.a2l_text.proofs.WordLemmas.{quoted_spelled, quoted_valid}
use Rattle.a2l_text.proofs.token.quoted_word.Goals as goal

-- the quote is there
pub behind-inside-requires : goal.behind-inside-requires
behind-inside-requires c =
    one_at c.args.text.now 34 (begins_at c.args.text.now Text c.requires)

-- nothing closes the text
pub returns-in_err-len-clause-fault : goal.returns-in_err-len-clause-fault
returns-in_err-len-clause-fault c =
    rw c.from_residual.ensures (drop 1 c.args.text.now, begins_at c.args.text.now Text c.requires, subst IsOpenText c.behind-inside.ensures c.in_err-len.ensures.«open»)

-- the text between the quotes
pub returns-clause-spelled : goal.returns-clause-spelled
returns-clause-spelled c =
    let closed = subst (λ t. drop c.in_ok-len.len t ≡ 34 ∷ drop (c.in_ok-len.len + 1) t) c.behind-inside.ensures c.in_ok-len.ensures.closed in
    quoted_spelled c.args.text.now c.in_ok-len.len c.requires closed ∙ ap (λ t. spelling (quoted t) ++ drop (c.in_ok-len.len + 2) c.args.text.now) (sym (c.before-2.ensures ∙ ap (take c.in_ok-len.len) c.behind-inside.ensures))

-- the closing quote is the first
pub returns-clause-valid : goal.returns-clause-valid
returns-clause-valid c =
    let alone = subst (λ t. begins_with_quote (drop (c.in_ok-len.len + 1) t) ≡ false) c.behind-inside.ensures c.in_ok-len.ensures.alone in
    let inside = subst (λ t. IsInText (take c.in_ok-len.len t)) c.behind-inside.ensures c.in_ok-len.ensures.inside in
    subst (λ t. IsWord (quoted t) (drop (c.in_ok-len.len + 2) c.args.text.now)) (sym (c.before-2.ensures ∙ ap (take c.in_ok-len.len) c.behind-inside.ensures)) (quoted_valid c.args.text.now c.in_ok-len.len inside alone)
