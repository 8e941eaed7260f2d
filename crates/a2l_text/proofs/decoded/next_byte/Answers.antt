use Rattle.std.proofs.Common.{ℕ, ◌∷◌, sym, ap, ◌∙◌}
use Rattle.a2l_text.specs.Texts.{unescaped}
use Rattle.a2l_text.proofs.DecodedLemmas.{says_last, says_pair, says_own}
use Rattle.a2l_text.proofs.decoded.next_byte.Goals as goal

-- the last byte
pub returns-in_default-clause-byte : goal.returns-in_default-clause-byte
returns-in_default-clause-byte c =
    says_last c.args.text.now c.in_ok-first.behind.now c.in_ok-first.first.now c.in_ok-first.ensures.cases.0 c.in_default.ensures.cases

-- two bytes stand for one
pub returns-then-is_pair-clause-byte : goal.returns-then-is_pair-clause-byte
returns-then-is_pair-clause-byte c =
    says_pair c.args.text.now c.in_ok-first.behind.now c.in-Some.rest.now c.in_ok-first.first.now c.in-Some.second.now c.in_ok-first.ensures.cases.0 c.in-Some.ensures.cases.0
    (sym c.is_pair.ensures ∙ c.if-is_pair.true)
    ∙ ap (λ (b : ℕ). b ∷ unescaped c.in-Some.rest.now) (sym c.escaped.ensures)

-- a byte for itself
pub returns-clause-byte : goal.returns-clause-byte
returns-clause-byte c =
    says_own c.args.text.now c.in_ok-first.behind.now c.in-Some.rest.now c.in_ok-first.first.now c.in-Some.second.now c.in_ok-first.ensures.cases.0 c.in-Some.ensures.cases.0
    (sym c.is_pair.ensures ∙ c.if-is_pair.false)
