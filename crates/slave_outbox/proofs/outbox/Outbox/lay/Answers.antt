use Rattle.std.proofs.Common.{◌≡◌, ℕ, ◌+◌, List, [], ◌∷◌, ◌++◌, length, ap, ◌∙◌, arith, length-append}
use Rattle.frame_writer.specs.Frame.{unnumbered}
use Rattle.frame_ring.specs.Records.{blocks_for}
use Rattle.frame_page.specs.Pages.{PageState}
use Rattle.slave_outbox.specs.Outboxes.{OutboxState, replies_in, together}
use Rattle.slave_outbox.specs.declared.origin.Origin.TheVariants as origin
use Rattle.slave_outbox.specs.Inner.{laid_of}
use Rattle.slave_outbox.proofs.BoxLemmas.{len-bound, outbox_more, room-blocks, room-places}
use Rattle.slave_outbox.proofs.KeptLemmas.{laid_push, replies_laid}
use Rattle.slave_outbox.proofs.outbox.Outbox.lay.Goals as goal

pub put_reply-requires-clause-room : goal.put_reply-requires-clause-room
put_reply-requires-clause-room c =
    let o = c.self.inside in
    let more = room-blocks o.most o.room o.page o.len o.shown o.log.shown c.self.invariant (4 + length c.args.packet.now) (omega (arith, c.requires.few, replies_laid o.page.waits c.self.invariant.some, ap (λ (x : OutboxState). replies_in x.waits) c.self.view_is, c.requires.fits, len-bound o.most o.room o.page o.len o.shown o.log.shown c.self.invariant)) in
    omega (arith, more)

pub put_reply-requires-clause-place : goal.put_reply-requires-clause-place
put_reply-requires-clause-place c =
    let o = c.self.inside in
    room-places o.most o.room o.page o.len o.shown o.log.shown c.self.invariant

frame_bytes : (q : List ℕ) → 4 + length q ≡ length (unnumbered (q ∷ []))
frame_bytes q = omega (arith, length-append q [])

pub invariant_of-self : goal.invariant_of-self
invariant_of-self c =
    let o = c.self.inside in
    let q = c.args.packet.now in
    outbox_more o.most o.room o.page o.len o.shown o.log.shown c.self.invariant c.put_reply.new.self (record { origin = origin.Reply; packets = q ∷ []; blocks = blocks_for (4 + length q) }) (4 + length q)
    c.put_reply.ensures (frame_bytes q) (omega (arith, c.requires.fits)) (omega arith) (omega arith) (λ reply. omega (arith, c.requires.fits, frame_bytes q))
    (omega (arith, c.self.invariant.samples)) (omega (arith, c.requires.few, replies_laid o.page.waits c.self.invariant.some, ap (λ (x : OutboxState). replies_in x.waits) c.self.view_is))

pub returns : goal.returns
returns c =
    let o = c.self.inside in
    let q = c.args.packet.now in
    record {
      lays_out =
          ap (λ (p : PageState _). record { sent = o.log.sent; counter = p.counter; waits = laid_of p.waits; shown = o.shown.count; page = o.most }) c.put_reply.ensures
          ∙ ap (λ xs. record { sent = o.log.sent; counter = o.page.counter; waits = xs; shown = o.shown.count; page = o.most }) (laid_push o.page.waits (record { origin = origin.Reply; packets = q ∷ []; blocks = blocks_for (4 + length q) }))
          ∙ ap (λ (x : OutboxState). record x { waits = x.waits ++ together origin.Reply (q ∷ []) }) c.self.view_is;
    }

pub overflow_add-self-2 : goal.overflow_add-self-2
overflow_add-self-2 c =
    let o = c.self.inside in
    omega (arith, len-bound o.most o.room o.page o.len o.shown o.log.shown c.self.invariant, c.self.invariant.limit, c.self.invariant.replies, c.requires.fits)
