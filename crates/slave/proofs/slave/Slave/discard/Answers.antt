use Rattle.std.proofs.Common.{Bool, true, false, not, ◌≡◌, ◌<◌, ◌+◌, refl, sym, subst, ◌∙◌}
use Rattle.std.proofs.lemmas.Bool.{false≢true}
use Rattle.slave_outbox.specs.Outboxes.{has_waiting}
use Rattle.slave.proofs.WeightLemmas.{not-thrown, thrown}
use Rattle.slave.specs.declared.limits.TheConstants.{MOST_ACTS, PER_PACKET}
use Rattle.slave.proofs.slave.Slave.discard.Goals as goal

waiting : (b e : Bool) → e ≡ not b → e ≡ false → b ≡ true
waiting true e is none = refl
waiting false e is none = absurd (false≢true (sym none ∙ is))

none-waiting : (b e : Bool) → e ≡ not b → e ≡ true → b ≡ false
none-waiting false e is none = refl
none-waiting true e is none = absurd (false≢true (sym is ∙ none))

-- something waits
pub returns-then-not-is_empty-clause-discards : goal.returns-then-not-is_empty-clause-discards
returns-then-not-is_empty-clause-discards c =
    thrown c.args.self.now c.throw_away.new.self (subst (λ s. s.acts < MOST_ACTS + PER_PACKET) c.self.view_is c.self.invariant.1) c.throw_away.ensures.acts_stay
    (subst (λ s. has_waiting s.outbox ≡ true) c.self.view_is (waiting (has_waiting c.self.inside.outbox) c.is_empty.result c.is_empty.ensures.waiting c.if-not-is_empty.true)) c.throw_away.ensures.discards

-- nothing does
pub returns-else-not-is_empty-clause-discards : goal.returns-else-not-is_empty-clause-discards
returns-else-not-is_empty-clause-discards c =
    not-thrown c.args.self.now
    (subst (λ s. has_waiting s.outbox ≡ false) c.self.view_is (none-waiting (has_waiting c.self.inside.outbox) c.is_empty.result c.is_empty.ensures.waiting c.if-not-is_empty.false))
