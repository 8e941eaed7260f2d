-- the elements so far that are there stand behind those before
use Rattle.std.proofs.Common.{◌≡◌, ◌++◌, map}
use Rattle.a2l.specs.Resolved.{described_measurement}
use Rattle.value_tables.specs.Elements.{elements_below}
use Rattle.value_tables.proofs.elements.add_elements.Given as goal

abbrev pub invariant-loop-index : goal.invariant-loop-index
invariant-loop-index g l =
    map described_measurement l.parts.items
    ≡ map described_measurement l.fn.parts.items
    ++ elements_below (g.H.Holder.held l.holder) (described_measurement l.array) l.index
