-- what stands in the places of the measurements so far, and the names of those that have nothing
use Rattle.std.proofs.Common.{◌≡◌, ◌++◌, map}
use Rattle.std.specs.List.{flat_map}
use Rattle.std.specs.Prelude.{string_bytes}
use Rattle.a2l.specs.Resolved.{described_measurement}
use Rattle.value_tables.specs.Elements.{name_if_none, parts_of}
use Rattle.value_tables.proofs.elements.add_all.Given as goal

abbrev pub invariant-loop-measurement : goal.invariant-loop-measurement
invariant-loop-measurement g l =
    (map described_measurement l.parts.items
    ≡ map described_measurement l.fn.parts.items
    ++ flat_map (parts_of (g.H.Holder.held l.holder)) (map described_measurement l.yielded))
    × (map (λ s. string_bytes s) l.left_out.items
    ≡ map (λ s. string_bytes s) l.fn.left_out.items
    ++ flat_map (name_if_none (g.H.Holder.held l.holder)) (map described_measurement l.yielded))
