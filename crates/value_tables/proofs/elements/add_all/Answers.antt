use Rattle.std.proofs.Common.{map, string_bytes}
use Rattle.a2l.specs.Resolved.{described_measurement}
use Rattle.value_tables.proofs.ElementLemmas.{one_value_more}
use Rattle.value_tables.specs.Elements.{name_if_none, parts_of}
use Rattle.value_tables.proofs.elements.add_all.Goals as goal

-- what stands in the place of one measurement more, or its name
pub loop-measurement-preserved : goal.loop-measurement-preserved
loop-measurement-preserved g c =
    let held = g.H.Holder.held c.args.holder.now in (
      one_value_more (parts_of held) described_measurement
          (map described_measurement c.args.parts.now.items)
          (map described_measurement c.loop-measurement.parts.items)
          (map described_measurement c.add_parts.new.parts.items) c.loop-measurement.yielded
          c.in-Some.measurement c.in_ok-add_parts.ensures.parts c.loop-measurement.invariant.0,
      one_value_more (name_if_none held) described_measurement
          (map (λ s. string_bytes s) c.args.left_out.now.items)
          (map (λ s. string_bytes s) c.loop-measurement.left_out.items)
          (map (λ s. string_bytes s) c.add_parts.new.left_out.items) c.loop-measurement.yielded
          c.in-Some.measurement c.in_ok-add_parts.ensures.left_out c.loop-measurement.invariant.1,
    )
