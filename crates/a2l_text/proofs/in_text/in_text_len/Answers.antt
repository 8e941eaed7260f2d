use Rattle.std.proofs.Common.{arith}
use Rattle.a2l_text.specs.declared.in_text.Letter.TheVariants.{Own, Pair, Closing, Backslash}
use Rattle.a2l_text.proofs.TextLemmas.{letter_here, pair_within, closes_here, alone_here, in_text_own, in_text_pair, open_at_end, open_at_backslash}
use Rattle.a2l_text.proofs.in_text.in_text_len.Goals as goal

-- one byte more may stand there
pub loop-at-preserved-in-Own : goal.loop-at-preserved-in-Own
loop-at-preserved-in-Own c =
    let letter = letter_here c.args.text.now c.behind.result.now c.loop-at.at Own c.letter_at.result c.loop-at-test.true c.behind.ensures c.letter_at.ensures c.in-Own.is in
    record { within = omega arith; inside = in_text_own c.args.text.now c.loop-at.at c.loop-at.invariant.inside letter }

-- two bytes more may
pub loop-at-preserved : goal.loop-at-preserved
loop-at-preserved c =
    let letter = letter_here c.args.text.now c.behind.result.now c.loop-at.at Pair c.letter_at.result c.loop-at-test.true c.behind.ensures c.letter_at.ensures c.in-Pair.is in
    record { within = pair_within c.args.text.now c.loop-at.at letter; inside = in_text_pair c.args.text.now c.loop-at.at c.loop-at.invariant.inside letter }

-- a quote closes the text
pub returns-in-Closing-clause-closed : goal.returns-in-Closing-clause-closed
returns-in-Closing-clause-closed c =
    closes_here c.args.text.now c.loop-at.at (letter_here c.args.text.now c.behind.result.now c.loop-at.at Closing c.letter_at.result c.loop-at-test.true c.behind.ensures c.letter_at.ensures c.in-Closing.is)

-- no quote follows it
pub returns-in-Closing-clause-alone : goal.returns-in-Closing-clause-alone
returns-in-Closing-clause-alone c =
    alone_here c.args.text.now c.loop-at.at (letter_here c.args.text.now c.behind.result.now c.loop-at.at Closing c.letter_at.result c.loop-at-test.true c.behind.ensures c.letter_at.ensures c.in-Closing.is)

-- a backslash is the last byte
pub returns-in-Backslash-clause-open : goal.returns-in-Backslash-clause-open
returns-in-Backslash-clause-open c =
    open_at_backslash c.args.text.now c.loop-at.at c.loop-at.invariant.inside (letter_here c.args.text.now c.behind.result.now c.loop-at.at Backslash c.letter_at.result c.loop-at-test.true c.behind.ensures c.letter_at.ensures c.in-Backslash.is)

-- all bytes may stand there
pub returns-clause-open : goal.returns-clause-open
returns-clause-open c =
    open_at_end c.args.text.now c.loop-at.at (omega arith) c.loop-at.invariant.inside
