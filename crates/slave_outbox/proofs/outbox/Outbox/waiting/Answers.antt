use Rattle.std.proofs.Common.{sym, ap, ◌∙◌}
use Rattle.slave_outbox.specs.Outboxes.{OutboxState, bytes_in}
use Rattle.slave_outbox.proofs.BoxLemmas.{bytes-waiting}
use Rattle.slave_outbox.proofs.outbox.Outbox.waiting.Goals as goal

pub returns : goal.returns
returns c =
    let o = c.self.inside in
    sym (bytes-waiting o.most o.room o.page o.len o.shown o.log.shown c.self.invariant) ∙ ap (λ (x : OutboxState). bytes_in x.waits) c.self.view_is
