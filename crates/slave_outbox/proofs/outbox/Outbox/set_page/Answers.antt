use Rattle.std.proofs.Common.{◌≡◌, sym, ap, ◌∙◌, subst, arith}
use Rattle.slave_outbox.specs.Inner.{IsOutbox, page_blocks, page_places}
use Rattle.slave_outbox.proofs.BoxLemmas.{outbox_grown}
use Rattle.slave_outbox.proofs.outbox.Outbox.set_page.Goals as goal

-- without memory the page is as it was
pub invariant_of-self : goal.invariant_of-self
invariant_of-self c =
    let o = c.self.inside in
    subst (λ p. IsOutbox o.most o.room p o.len o.shown o.log.shown) (sym c.in_err-grow.ensures.err) c.self.invariant

pub invariant_of-self-2 : goal.invariant_of-self-2
invariant_of-self-2 c =
    let o = c.self.inside in
    let room = c.max-room.result in
    let grown : c.grow.new.self ≡ record o.page { blocks = page_blocks room; most = page_places room } =
    c.in_ok-grow.ensures.ok ∙ ap (λ n. record o.page { blocks = n; most = c.page_places.result }) c.page_blocks.ensures.value
    ∙ ap (λ n. record o.page { blocks = page_blocks room; most = n }) c.page_places.ensures.value in
    outbox_grown o.most o.room o.page o.len o.shown o.log.shown c.self.invariant c.args.page room c.grow.new.self grown (omega (arith, c.max-room.ensures)) (omega (arith, c.max-room.ensures)) (omega (arith, c.max-room.ensures, c.requires.limit, c.self.invariant.limit))
