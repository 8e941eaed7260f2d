use Rattle.std.proofs.Common.{map}
use Rattle.a2l.specs.Resolved.{described_measurement}
use Rattle.value_tables.proofs.ElementLemmas.{elements_begin, elements_go_on}
use Rattle.value_tables.proofs.elements.add_elements.Goals as goal

pub loop-index-init : goal.loop-index-init
loop-index-init g c =
    elements_begin (g.H.Holder.held c.args.holder.now) (described_measurement c.args.array.now)
    (map described_measurement c.args.parts.now.items)

-- the element stands behind those before, if it is there
pub loop-index-preserved : goal.loop-index-preserved
loop-index-preserved g c =
    elements_go_on (g.H.Holder.held c.args.holder.now) (described_measurement c.args.array.now)
    (map described_measurement c.args.parts.now.items)
    (map described_measurement c.loop-index.parts.items)
    (map described_measurement c.add_element.new.parts.items) c.loop-index.index
    c.in_ok-add_element.ensures c.loop-index.invariant
