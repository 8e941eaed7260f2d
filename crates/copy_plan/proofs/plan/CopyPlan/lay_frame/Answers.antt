use Rattle.std.proofs.Common.{◌≤◌, ◌≡◌, ◌++◌, length, take, arith, ap, ◌∙◌, sym, subst, ◌+◌, ◌-◌, ℕ, List, refl}
use Rattle.std.specs.Prelude.{All}
use Rattle.copy_plan.specs.declared.span.Span.{Span}
use Rattle.xcp_base.specs.Copied.{copied_from}
use Rattle.copy_plan.specs.Inner.Spans.{copied}
use Rattle.xcp_base.specs.Forms.{field_len}
use Rattle.xcp_base.specs.Packets.{stamp_len}
use Rattle.std.specs.Int.{to_le_bytes, w32}
use Rattle.frame_writer.specs.Frame.{two_bytes}
use Rattle.copy_plan.specs.Config.{ListPlan, elements_len, odt}
use Rattle.copy_plan.specs.Memory.{image_in}
use Rattle.copy_plan.specs.Packet.{elements, packet, timestamp}
use Rattle.copy_plan.specs.Pids.{field}
use Rattle.copy_plan.proofs.CopyLemmas.{copied_of_memory, fits_len, placed_stretches, spans_in_memory}
use Rattle.copy_plan.proofs.FrameLemmas.{framed, header_is, put_in_turn}
use Rattle.copy_plan.proofs.JoinedLemmas.{copied-joined_spans, ordered-joined_spans}
use Rattle.copy_plan.proofs.PacketLemmas.{elements_long, packet_has_len, packet_is, timestamp-front}
use Rattle.copy_plan.proofs.plan.CopyPlan.lay_frame.Goals as goal
use Rattle.copy_plan.proofs.plan.CopyPlan.lay_frame.Goals.{After-stretches}

-- the copies are in order
ordered : (c : After-stretches) → All (λ (r : Span). r.start ≤ r.end) c.copies_of-copies.result.now.spans
ordered c = subst (All (λ (r : Span). r.start ≤ r.end)) (sym c.copies_of-copies.ensures.spans) (ordered-joined_spans (odt c.args.self.now c.args.k))

-- the copies lie within memory
pub put_copied-end-requires-clause-inside : goal.put_copied-end-requires-clause-inside
put_copied-end-requires-clause-inside c =
    rw (c.offsets.ensures, c.stretches.ensures) (spans_in_memory c.args.self.now.channel c.args.self.now.segments c.args.memory c.copies_of-copies.result.now c.requires.memory c.copies_of-copies.ensures.placed (ordered c))

-- they are as many as the stretches have
pub put_copied-end-requires-clause-counts : goal.put_copied-end-requires-clause-counts
put_copied-end-requires-clause-counts c =
    rw (c.offsets.ensures, c.stretches.ensures) (placed_stretches c.args.self.now.channel c.args.self.now.segments c.copies_of-copies.result.now c.copies_of-copies.ensures.placed)

-- they are the elements
are_elements : (c : After-stretches) → copied_from c.args.memory c.stretches.result.now c.offsets.result.now ≡ elements (image_in c.args.self.now.channel c.args.self.now.segments c.args.memory) (odt c.args.self.now c.args.k)
are_elements c =
    let plan : ListPlan = c.args.self.now in
    let image = image_in plan.channel plan.segments c.args.memory in
    rw (c.offsets.ensures, c.stretches.ensures) (copied_of_memory plan.channel plan.segments c.args.memory c.copies_of-copies.result.now c.requires.memory c.copies_of-copies.ensures.placed (ordered c)
    ∙ ap (copied image) c.copies_of-copies.ensures.spans ∙ copied-joined_spans image (odt plan c.args.k))

-- where they begin
begin : (c : After-stretches) → c.put_first-copies_at.result ≡ c.args.at + 4 + field_len c.args.self.now.form.id + stamp_len c.args.self.now.form.stamp c.args.self.now.stamped c.args.k
begin c = omega (arith, c.put_first-stamp_at.ensures.end, c.put_first-copies_at.ensures.end, c.field_len.ensures.value ∙ ap (λ (p : ListPlan). field_len p.form.id) c.self.view_is, c.stamp_len.ensures.value)

-- how many there are
many : (c : After-stretches) → length (copied_from c.args.memory c.stretches.result.now c.offsets.result.now) ≡ elements_len c.args.self.now c.args.k
many c =
    let plan : ListPlan = c.args.self.now in
    ap length (are_elements c)
    ∙ elements_long plan (image_in plan.channel plan.segments c.args.memory) c.args.k (fits_len plan.channel plan.segments c.args.memory c.requires.memory) c.copies_of-copies.ensures.plan c.requires.odt

pub put_copied-end-requires-clause-room : goal.put_copied-end-requires-clause-room
put_copied-end-requires-clause-room c = omega (arith, c.requires.room, begin c, many c, c.put_first-stamp_at.ensures.len, c.put_first-copies_at.ensures.len)

pub overflow_cast-end : goal.overflow_cast-end
overflow_cast-end c =
    let w : After-stretches = (goal.at.overflow_cast-end c).After-stretches in
    omega (arith, c.put_copied-end.ensures.end, begin w, many w, c.copies_of-copies.ensures.plan.short c.args.k c.requires.odt, c.copies_of-copies.ensures.plan.form)

pub returns-clause-end : goal.returns-clause-end
returns-clause-end c =
    let w : After-stretches = (goal.at.returns-clause-end c).After-stretches in
    omega (arith, c.put_copied-end.ensures.end, begin w, many w)

pub returns-clause-front : goal.returns-clause-front
returns-clause-front c =
    let w : After-stretches = (goal.at.returns-clause-front c).After-stretches in
    let plan : ListPlan = c.args.self.now in
    let image = image_in plan.channel plan.segments c.args.memory in
    let q : List ℕ = packet plan image c.args.stamp c.args.overload c.args.k in
    let at = c.args.at in
    let end = c.put_copied-end.result in
    let fit = fits_len plan.channel plan.segments c.args.memory c.requires.memory in
    let whole = packet_has_len plan image c.args.stamp c.args.k c.args.overload fit c.copies_of-copies.ensures.plan c.requires.odt in
    let stop : end ≡ at + 4 + length q = omega (arith, c.put_copied-end.ensures.end, begin w, many w, whole) in
    let long : end - (at + 4) ≡ length q = omega (arith, stop) in
    let few : length q ≤ 8192 = omega (arith, whole, c.copies_of-copies.ensures.plan.short c.args.k c.requires.odt, c.copies_of-copies.ensures.plan.form) in
    -- the parts of the packet
    let first : take c.field_len.result c.field.result ≡ field plan c.args.k c.args.overload
    = ap (λ n. take n c.field.result) (c.field_len.ensures.value ∙ ap (λ (p : ListPlan). field_len p.form.id) c.self.view_is) ∙ c.field.ensures in
    let ticks : take c.stamp_len.result c.to_le_bytes.result ≡ timestamp plan c.args.k c.args.stamp
    = ap (λ n. take n c.to_le_bytes.result) c.stamp_len.ensures.value ∙ ap (take (stamp_len plan.form.stamp plan.stamped c.args.k)) c.to_le_bytes.ensures ∙ timestamp-front plan c.args.k c.args.stamp in
    let copies = copied_from c.args.memory c.stretches.result.now c.offsets.result.now in
    let is = packet_is plan image c.args.stamp c.args.k c.args.overload (take c.field_len.result c.field.result) (take c.stamp_len.result c.to_le_bytes.result) copies first ticks (are_elements w) in
    let parts = put_in_turn (take (at + 4) c.args.out.now) (take c.put_first-stamp_at.result c.put_first-stamp_at.new.cells) (take c.put_first-copies_at.result c.put_first-copies_at.new.cells) (take end c.put_copied-end.new.cells)
    (take c.field_len.result c.field.result) (take c.stamp_len.result c.to_le_bytes.result) copies c.put_first-stamp_at.ensures.front c.put_first-copies_at.ensures.front c.put_copied-end.ensures.front in
    -- the header in front of them
    let header : c.to_le_bytes-header.result ≡ two_bytes (length q) ++ two_bytes 0 = c.to_le_bytes-header.ensures ∙ ap (to_le_bytes w32) long ∙ header_is (length q) few in
    framed c.args.out.now c.put_copied-end.new.cells c.put_number.new.cells q (two_bytes (length q) ++ two_bytes 0) at end refl stop
    (omega (arith, c.requires.room))
    (parts ∙ ap (λ b. take (at + 4) c.args.out.now ++ b) is)
    (c.put_number.ensures.front ∙ ap (λ b. take at c.put_copied-end.new.cells ++ b) header) c.put_number.ensures.behind
