use Rattle.std.proofs.Common.{nat_lt, sym, ap, ◌∙◌}
use Rattle.slave_outbox.specs.Outboxes.{has_room}
use Rattle.slave_outbox.specs.declared.limits.TheConstants.{MAX_REPLIES}
use Rattle.slave_outbox.proofs.KeptLemmas.{replies_laid}
use Rattle.slave_outbox.proofs.outbox.Outbox.has_room.Goals as goal

-- few replies wait, or not
pub returns : goal.returns
returns c =
    let o = c.self.inside in
    ap (λ n. nat_lt n MAX_REPLIES) (c.replies_in.ensures ∙ sym (replies_laid o.page.waits c.self.invariant.some)) ∙ ap has_room c.self.view_is
