use Rattle.std.proofs.Common.{◌≡◌, ◌-◌, ◌++◌, length, take, drop, refl, sym, ap, ◌∙◌, subst, arith}
use Rattle.frame_writer.specs.Frame.{text}
use Rattle.frame_page.specs.Pages.{PageState}
use Rattle.slave_outbox.specs.Inner.{IsOutbox, laid_of}
use Rattle.slave_outbox.specs.Outboxes.{Laid, OutboxState, StandsAfter, packets_in}
use Rattle.slave_outbox.proofs.BoxLemmas.{outbox_sent, shown_within}
use Rattle.slave_outbox.proofs.KeptLemmas.{drop_laid, packets_laid}
use Rattle.slave_outbox.proofs.LaidLemmas.{many_packets, stands-sent, take-map}
use Rattle.slave_outbox.proofs.outbox.Outbox.sent.Goals as goal

pub overflow_sub-self : goal.overflow_sub-self
overflow_sub-self c = shown_within c.self.inside.most c.self.inside.room c.self.inside.page c.self.inside.len c.self.inside.shown c.self.inside.log.shown c.self.invariant

pub invariant_of-self : goal.invariant_of-self
invariant_of-self c =
    let o = c.self.inside in
    subst (IsOutbox o.most o.room c.let_go.new.page (o.len - o.shown.len) (record { count = 0; len = 0 })) (sym c.sent.ensures.1)
    (outbox_sent o.most o.room o.page o.len o.shown o.log.shown c.self.invariant c.let_go.new.page c.let_go.ensures)

-- what was shown is the front of what waited
pub returns-clause-stands : goal.returns-clause-stands
returns-clause-stands c = λ page all waits stands.
    let o = c.self.inside in
    let n = o.shown.count in
    let is = c.self.invariant in
    let was : OutboxState = record { sent = o.log.sent; counter = o.page.counter; waits = laid_of o.page.waits; shown = n; page = o.most } in
    let now : OutboxState = record { sent = c.sent.new.self.sent; counter = c.let_go.new.page.counter; waits = laid_of c.let_go.new.page.waits; shown = 0; page = o.most } in
    let front : take n (packets_in was.waits) ≡ packets_in (take n was.waits) = take-map (λ (x : Laid). x.packet) n was.waits in
    let bytes : o.log.shown ≡ text was.counter (packets_in (take n was.waits)) = is.shown_are ∙ ap (λ qs. text was.counter (take n qs)) (sym (packets_laid o.page.waits)) ∙ ap (text was.counter) front in
    subst (λ (x : OutboxState). StandsAfter now page (all ++ take x.shown waits) (drop x.shown waits)) c.self.view_is
    (stands-sent was now page n all waits
    (c.sent.ensures.0 ∙ ap (λ bs. o.log.sent ++ bs) bytes)
    (ap (λ (p : PageState _). p.counter) c.let_go.ensures)
    (ap (λ (p : PageState _). laid_of p.waits) c.let_go.ensures ∙ sym (drop_laid n o.page.waits))
    (omega (arith, is.there, ap length (packets_laid o.page.waits), many_packets was.waits))
    refl
    (subst (λ (x : OutboxState). StandsAfter x page all waits) (sym c.self.view_is) stands))
