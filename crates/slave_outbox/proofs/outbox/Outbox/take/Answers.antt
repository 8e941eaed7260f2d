use Rattle.std.proofs.Common.{◌≡◌, ◌-◌, sym, ap, ◌∙◌, subst, arith, true≢false}
use Rattle.xcp_base.specs.declared.item.Item.TheVariants.{Sample}
use Rattle.frame_ring.specs.Records.{cost}
use Rattle.frame_ring.proofs.RecordLemmas.{sample_cost}
use Rattle.slave_outbox.specs.Outboxes.{OutboxState, bytes_in}
use Rattle.slave_outbox.specs.Taking.{TakesItem}
use Rattle.slave_outbox.specs.declared.origin.Origin.TheVariants as origin
use Rattle.slave_outbox.proofs.BoxLemmas.{bytes-waiting, len-bound, outbox_more, room-blocks, room-places}
use Rattle.slave_outbox.specs.declared.step.Step.TheVariants.{Wrote}
use Rattle.slave_outbox.proofs.KeptLemmas.{frames_bytes, samples_within, some_bytes}
use Rattle.slave_outbox.proofs.TakingLemmas.{box_of, takes-item}
use Rattle.slave_outbox.proofs.outbox.Outbox.take.Goals as goal

pub step-step-requires-clause-blocks : goal.step-step-requires-clause-blocks
step-step-requires-clause-blocks c =
    let o = c.self.inside in
    room-blocks o.most o.room o.page o.len o.shown o.log.shown c.self.invariant c.room-room.result
    (omega (arith, c.room-room.ensures, ap (λ (x : OutboxState). x.page) c.self.view_is, ap (λ (x : OutboxState). bytes_in x.waits) c.self.view_is, bytes-waiting o.most o.room o.page o.len o.shown o.log.shown c.self.invariant, len-bound o.most o.room o.page o.len o.shown o.log.shown c.self.invariant, c.self.invariant.within, c.self.invariant.replies))

pub step-step-requires-clause-place : goal.step-step-requires-clause-place
step-step-requires-clause-place c =
    let o = c.self.inside in
    room-places o.most o.room o.page o.len o.shown o.log.shown c.self.invariant

-- a sample that is laid out ends within the page
pub invariant_of-self : goal.invariant_of-self
invariant_of-self c =
    let o = c.self.inside in
    let (s, takes, list, passes, lays) = c.in-Wrote.ensures.means in
    let room : c.room-room.result ≡ o.most - o.len =
    c.room-room.ensures ∙ ap (λ (x : OutboxState). x.page - bytes_in x.waits) (sym c.self.view_is) ∙ ap (λ n. o.most - n) (bytes-waiting o.most o.room o.page o.len o.shown o.log.shown c.self.invariant) in
    let costs = sample_cost s in
    let bytes = frames_bytes s.packets lays.packets.some lays.packets.each in
    outbox_more o.most o.room o.page o.len o.shown o.log.shown c.self.invariant c.step-step.new.page
    (record { origin = origin.Sample c.args.measurement c.args.channel c.in-Wrote.field-0; packets = s.packets; blocks = cost (Sample s) }) c.in-Wrote.len
    lays.page lays.long (omega (arith, costs, lays.long, lays.within, room, c.self.invariant.within)) (omega (arith, costs, lays.long, bytes)) lays.packets.some (λ reply. absurd (true≢false (sym reply)))
    (omega (arith, lays.within, room, lays.long, some_bytes s.packets lays.packets.some, samples_within o.page.waits, c.self.invariant.long, c.self.invariant.within)) (omega (arith, c.self.invariant.replies))

pub returns-in-Wrote-clause-means : goal.returns-in-Wrote-clause-means
returns-in-Wrote-clause-means c =
    let o = c.self.inside in
    subst (λ (x : OutboxState). TakesItem c.args.intake.now c.step-step.new.self x (box_of o.most o.log.sent c.step-step.new.page o.shown.count) c.args.measurement c.args.channel (Wrote c.in-Wrote.field-0 c.in-Wrote.len)) c.self.view_is
    (takes-item c.args.intake.now c.step-step.new.self o.page c.step-step.new.page o.most c.room-room.result o.log.sent o.shown.count c.args.measurement c.args.channel (Wrote c.in-Wrote.field-0 c.in-Wrote.len)
    (c.room-room.ensures ∙ ap (λ (x : OutboxState). x.page - bytes_in x.waits) (sym c.self.view_is)) c.in-Wrote.ensures.means)

-- what waits is never more than fits
pub overflow_add-self : goal.overflow_add-self
overflow_add-self c =
    let o = c.self.inside in
    let (s, takes, list, passes, lays) = c.in-Wrote.ensures.means in
    omega (arith, len-bound o.most o.room o.page o.len o.shown o.log.shown c.self.invariant, c.self.invariant.limit, c.self.invariant.replies, lays.within, c.room-room.ensures, c.self.invariant.within, ap (λ (x : OutboxState). x.page) c.self.view_is)
