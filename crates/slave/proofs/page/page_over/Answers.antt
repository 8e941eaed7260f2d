use Rattle.std.specs.Prelude.{max}
use Rattle.std.proofs.Common.{sym, ap, ◌∙◌, arith}
use Rattle.slave.specs.Pages.{ready_frames_of}
use Rattle.slave_outbox.specs.declared.limits.TheConstants.{PAGE}
use Rattle.slave.proofs.PageLemmas.{greatest-next}
use Rattle.slave.proofs.page.page_over.Goals as goal

pub loop-l-preserved : goal.loop-l-preserved
loop-l-preserved c =
    let f = ready_frames_of c.args.store.now in
    let l = c.loop-l.l in (
      c.max-page.ensures ∙ ap (max c.loop-l.page) c.ready_frames.ensures.value ∙ ap (λ n. max n (f l)) c.loop-l.invariant.0 ∙ sym (greatest-next f PAGE l),
      omega (arith, c.max-page.ensures, c.loop-l.invariant.1, c.ready_frames.ensures.limit),
    )
