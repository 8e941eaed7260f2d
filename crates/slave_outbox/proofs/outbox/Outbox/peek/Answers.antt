use Rattle.std.proofs.Common.{length, take, sym, ap, ◌∙◌, subst}
use Rattle.frame_writer.specs.Frame.{text}
use Rattle.frame_ring.specs.Sending.{FrontFits}
use Rattle.slave_outbox.specs.Inner.{laid_of}
use Rattle.slave_outbox.specs.Outboxes.{Laid, OutboxState, packets_in}
use Rattle.slave_outbox.proofs.KeptLemmas.{packets_laid}
use Rattle.slave_outbox.proofs.LaidLemmas.{take-map}
use Rattle.slave_outbox.proofs.outbox.Outbox.peek.Goals as goal

pub returns-clause-shows : goal.returns-clause-shows
returns-clause-shows c =
    subst (λ qs. FrontFits qs (length c.args.buffer.now) (record { count = c.peek-front.result.count; len = c.peek-front.result.len }))
    (sym (packets_laid c.self.inside.page.waits) ∙ ap (λ (o : OutboxState). packets_in o.waits) c.self.view_is) c.peek-front.ensures.fits

pub returns-clause-bytes : goal.returns-clause-bytes
returns-clause-bytes c =
    let o = c.self.inside in
    let n = c.peek-front.result.count in
    c.peek-front.ensures.bytes ∙ ap (λ qs. text o.page.counter (take n qs)) (sym (packets_laid o.page.waits))
    ∙ ap (text o.page.counter) (take-map (λ (x : Laid). x.packet) n (laid_of o.page.waits))
    ∙ ap (λ (x : OutboxState). text x.counter (packets_in (take n x.waits))) c.self.view_is
