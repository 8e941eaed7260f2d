use Rattle.std.proofs.Common.{◌≡◌, ap, ◌∙◌, sym, subst}
use Rattle.session.specs.Profiles.{lists_of}
use Rattle.slave_channels.specs.Calls.{HasSome}
use Rattle.slave.specs.Plans.{IsSame}
use Rattle.slave.proofs.PreparingLemmas.{if-err, looks-in-vain, none-prepare, on-ok-both, other-in-vain, starts-prepare}
use Rattle.slave.proofs.slave.Slave.prepare.Goals as goal

pub returns-then-is_empty-clause-ok : goal.returns-then-is_empty-clause-ok
returns-then-is_empty-clause-ok c = none-prepare c.args.self.now c.args.lists (c.is_empty.ensures.none c.if-is_empty.true)

pub start_anew-requires-clause-idle : goal.start_anew-requires-clause-idle
start_anew-requires-clause-idle c = c.is_idle.ensures.idle c.if-is_idle.true

pub start_anew-requires-clause-some : goal.start_anew-requires-clause-some
start_anew-requires-clause-some c = c.is_empty.ensures.some c.if-is_empty.false

-- a new measurement was opened for them, or in vain
pub returns-then-is_idle-clause-ok : goal.returns-then-is_idle-clause-ok
returns-then-is_idle-clause-ok c = c.start_anew.ensures.ok

pub returns-then-is_idle-clause-err : goal.returns-then-is_idle-clause-err
returns-then-is_idle-clause-err c = c.start_anew.ensures.err

pub returns-then-not-stands-clause-err : goal.returns-then-not-stands-clause-err
returns-then-not-stands-clause-err c =
    let profile = subst (λ s. s.session.store.profile ≡ lists_of s.session.profile) c.self.view_is (ap (λ s. s.profile) (sym c.store.ensures.value) ∙ c.store.ensures.profile) in
    let found = c.stands.ensures.no c.if-not-stands.true in
    other-in-vain c.args.self.now c.args.lists found.0 (c.is_idle.ensures.busy c.if-is_idle.false) profile found.1 found.2
    (λ same. found.3 (subst (λ z. IsSame c.self.inside.plan z found.0) (sym c.store.ensures.value) (subst (λ s. IsSame s.plan s.session.store found.0) (sym c.self.view_is) same)))

pub returns-clause-ok : goal.returns-clause-ok
returns-clause-ok c =
    let profile = subst (λ s. s.session.store.profile ≡ lists_of s.session.profile) c.self.view_is (ap (λ s. s.profile) (sym c.store.ensures.value) ∙ c.store.ensures.profile) in
    on-ok-both c.start.result _ _ _
    (λ starts rings.
    starts-prepare c.args.self.now c.start.new.self c.args.lists starts (c.is_idle.ensures.busy c.if-is_idle.false) profile rings
    (λ l below one.
    subst (λ s. IsSame s.plan s.session.store l) c.self.view_is (subst (λ z. IsSame c.self.inside.plan z l) c.store.ensures.value (c.stands.ensures.yes c.if-not-stands.false l below one))))
    c.start.ensures.ok c.start.ensures.rings

pub returns-clause-err : goal.returns-clause-err
returns-clause-err c =
    let profile = subst (λ s. s.session.store.profile ≡ lists_of s.session.profile) c.self.view_is (ap (λ s. s.profile) (sym c.store.ensures.value) ∙ c.store.ensures.profile) in
    let some : HasSome c.args.lists = c.is_empty.ensures.some c.if-is_empty.false in
    if-err c.start.result _ _ _ c.start.ensures.refused c.start.ensures.err
    (λ code is looks.
    looks-in-vain c.args.self.now c.start.new.self c.args.lists code (c.is_idle.ensures.busy c.if-is_idle.false) is looks some profile
    (λ l below one.
    subst (λ s. IsSame s.plan s.session.store l) c.self.view_is (subst (λ z. IsSame c.self.inside.plan z l) c.store.ensures.value (c.stands.ensures.yes c.if-not-stands.false l below one))))
