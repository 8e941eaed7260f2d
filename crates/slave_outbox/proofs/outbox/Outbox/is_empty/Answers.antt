use Rattle.std.proofs.Common.{not, nat_eq, ap, ◌∙◌}
use Rattle.slave_outbox.specs.Outboxes.{OutboxState, has_waiting}
use Rattle.slave_outbox.proofs.BoxLemmas.{some-waits}
use Rattle.slave_outbox.proofs.outbox.Outbox.is_empty.Goals as goal

pub returns-clause-waiting : goal.returns-clause-waiting
returns-clause-waiting c =
    ap (λ n. nat_eq n 0) c.len.ensures ∙ some-waits c.self.inside.page.waits c.self.invariant.some ∙ ap (λ (o : OutboxState). not (has_waiting o)) c.self.view_is
