use Rattle.std.proofs.Common.{length, sym, ap, ◌∙◌}
use Rattle.slave_outbox.specs.Outboxes.{OutboxState, origins_in}
use Rattle.slave_outbox.proofs.KeptLemmas.{origins_laid}
use Rattle.slave_outbox.proofs.LaidLemmas.{many-map}
use Rattle.slave_outbox.proofs.outbox.Outbox.len.Goals as goal

pub returns : goal.returns
returns c =
    let kept = c.self.inside.page.waits in
    c.len.ensures ∙ sym (many-map (λ x. x.origin) kept) ∙ sym (ap length (origins_laid kept c.self.invariant.some))
    ∙ ap (λ (o : OutboxState). length (origins_in o.waits)) c.self.view_is
