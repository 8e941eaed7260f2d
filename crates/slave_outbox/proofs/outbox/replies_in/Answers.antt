use Rattle.std.proofs.Common.{◌+◌, sym, ap, ◌∙◌, arith}
use Rattle.slave_outbox.specs.Origins.{is_reply}
use Rattle.slave_outbox.proofs.KeptLemmas.{replies_more, some-at}
use Rattle.slave_outbox.proofs.outbox.replies_in.Goals as goal

-- the next one is one more, or it isn't
pub loop-i-preserved : goal.loop-i-preserved
loop-i-preserved c =
    let one = c.one_if-count.ensures in
    let kept = c.args.page.now.waits in
    let (x, at) = some-at kept c.loop-i.i (omega (arith, c.loop-i-test.true, c.len-i-end.ensures)) in
    let more = replies_more kept c.loop-i.i c.one_if-count.result x c.is_reply.result at (c.is_reply.ensures ∙ ap is_reply (c.origin.ensures x at)) one.yes one.no in
    record {
      count = ap (λ n. n + c.one_if-count.result) c.loop-i.invariant.count ∙ sym more;
      few = omega (arith, c.loop-i.invariant.few, one.limit);
    }
