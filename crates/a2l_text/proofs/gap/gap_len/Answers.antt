use Rattle.std.proofs.Common.{length, ap, arith, length-drop}
use Rattle.a2l_text.proofs.GapLemmas.{skips_on, no_gap_at_end}
use Rattle.a2l_text.proofs.gap.gap_len.Goals as goal

-- one piece more is passed over
pub loop-at-preserved : goal.loop-at-preserved
loop-at-preserved c =
    let within = c.in-Some.ensures.within in
    record {
      within = omega (arith, within, ap length c.behind.ensures, length-drop c.loop-at.at c.args.text.now);
      gap = skips_on c.args.text.now c.behind.result.now c.loop-at.at c.in-Some.len c.behind.ensures (c.in-Some.ensures.piece (omega (arith, c.in-Some.len-test.1))) c.loop-at.invariant.gap;
    }

-- at the end of the text no gap begins
pub returns-clause-whole : goal.returns-clause-whole
returns-clause-whole c =
    no_gap_at_end c.args.text.now c.loop-at.at (omega arith)
