use Rattle.std.proofs.Common.{refl, arith}
use Rattle.a2l_text.specs.Fronts.{ends_line}
use Rattle.a2l_text.proofs.FrontLemmas.{up_to_at, up_to_end, line_ends}
use Rattle.a2l_text.proofs.fronts.line_len.Goals as goal

-- the first line feed
pub returns-then-byte-eq10-clause-line : goal.returns-then-byte-eq10-clause-line
returns-then-byte-eq10-clause-line c =
    up_to_at ends_line c.args.text.now c.loop-at.at (omega arith) c.loop-at.invariant
    (line_ends c.args.text.now c.loop-at.at (omega arith) c.if-byte-eq10.true)

-- there is no line feed
pub returns-clause-line : goal.returns-clause-line
returns-clause-line c =
    up_to_end ends_line c.args.text.now (λ k h. c.loop-at.invariant k (omega arith)) refl
