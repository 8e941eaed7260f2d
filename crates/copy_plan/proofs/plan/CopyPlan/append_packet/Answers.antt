use Rattle.std.proofs.Common.{◌≤◌, ◌≡◌, ◌++◌, [], ◌∷◌, length, take, arith, ap, ◌∙◌, sym, subst}
use Rattle.std.specs.Prelude.{All}
use Rattle.copy_plan.specs.declared.span.Span.{Span}
use Rattle.xcp_base.specs.Copied.{copied_from, copied_packet}
use Rattle.copy_plan.specs.Inner.Spans.{copied}
use Rattle.xcp_base.specs.Forms.{field_len}
use Rattle.xcp_base.specs.Packets.{stamp_len}
use Rattle.copy_plan.specs.Config.{ListPlan, odt}
use Rattle.copy_plan.specs.Memory.{image_in}
use Rattle.copy_plan.specs.Packet.{elements, packet, timestamp}
use Rattle.copy_plan.specs.Pids.{field}
use Rattle.copy_plan.proofs.CopyLemmas.{copied_of_memory, fits_len, placed_stretches, spans_in_memory}
use Rattle.copy_plan.proofs.JoinedLemmas.{copied-joined_spans, ordered-joined_spans}
use Rattle.copy_plan.proofs.PacketLemmas.{length-packet, packet_is, timestamp-front}
use Rattle.copy_plan.proofs.plan.CopyPlan.append_packet.Goals as goal
use Rattle.copy_plan.proofs.plan.CopyPlan.append_packet.Goals.{After-stretches}

-- the copies are in order
ordered : (c : After-stretches) → All (λ (r : Span). r.start ≤ r.end) c.copies_of-copies.result.now.spans
ordered c = subst (All (λ (r : Span). r.start ≤ r.end)) (sym c.copies_of-copies.ensures.spans) (ordered-joined_spans (odt c.args.self.now c.args.k))

-- the copies lie within memory
pub push_copied-requires-clause-inside : goal.push_copied-requires-clause-inside
push_copied-requires-clause-inside c =
    rw (c.offsets.ensures, c.stretches.ensures) (spans_in_memory c.args.self.now.channel c.args.self.now.segments c.args.memory c.copies_of-copies.result.now c.requires.memory c.copies_of-copies.ensures.placed (ordered c))

pub push_copied-requires-clause-counts : goal.push_copied-requires-clause-counts
push_copied-requires-clause-counts c =
    rw (c.offsets.ensures, c.stretches.ensures) (placed_stretches c.args.self.now.channel c.args.self.now.segments c.copies_of-copies.result.now c.copies_of-copies.ensures.placed)

-- what is pushed is the packet
is_packet : (c : After-stretches) → copied_packet (take c.field_len.result c.field-field.result) (take c.stamp_len.result c.to_le_bytes-stamp.result) c.args.memory c.stretches.result.now c.offsets.result.now ≡ packet c.args.self.now (image_in c.args.self.now.channel c.args.self.now.segments c.args.memory) c.args.stamp c.args.overload c.args.k
is_packet c =
    let plan : ListPlan = c.args.self.now in
    let image = image_in plan.channel plan.segments c.args.memory in
    let first : take c.field_len.result c.field-field.result ≡ field plan c.args.k c.args.overload
    = ap (λ n. take n c.field-field.result) (c.field_len.ensures.value ∙ ap (λ (p : ListPlan). field_len p.form.id) c.self.view_is) ∙ c.field-field.ensures in
    let ticks : take c.stamp_len.result c.to_le_bytes-stamp.result ≡ timestamp plan c.args.k c.args.stamp
    = ap (λ n. take n c.to_le_bytes-stamp.result) c.stamp_len.ensures.value ∙ ap (take (stamp_len plan.form.stamp plan.stamped c.args.k)) c.to_le_bytes-stamp.ensures ∙ timestamp-front plan c.args.k c.args.stamp in
    let copies : copied_from c.args.memory c.stretches.result.now c.offsets.result.now ≡ elements image (odt plan c.args.k)
    = rw (c.offsets.ensures, c.stretches.ensures) (copied_of_memory plan.channel plan.segments c.args.memory c.copies_of-copies.result.now c.requires.memory c.copies_of-copies.ensures.placed (ordered c)
    ∙ ap (copied image) c.copies_of-copies.ensures.spans ∙ copied-joined_spans image (odt plan c.args.k)) in
    packet_is plan image c.args.stamp c.args.k c.args.overload (take c.field_len.result c.field-field.result) (take c.stamp_len.result c.to_le_bytes-stamp.result) (copied_from c.args.memory c.stretches.result.now c.offsets.result.now) first ticks copies

-- the packet has the length that the plan has for it
pub push_copied-requires-clause-fits : goal.push_copied-requires-clause-fits
push_copied-requires-clause-fits c =
    let plan : ListPlan = c.args.self.now in
    omega (arith, ap length (is_packet c), length-packet plan (image_in plan.channel plan.segments c.args.memory) c.args.stamp c.args.k c.args.overload (fits_len plan.channel plan.segments c.args.memory c.requires.memory) c.copies_of-copies.ensures.plan c.requires.by_value c.requires.odt)

pub returns : goal.returns
returns c =
    let w : After-stretches = (goal.at.returns c).After-stretches in
    c.in-Ok.ensures.ok ∙ ap (λ q. c.args.sample.now ++ q ∷ []) (is_packet w)
