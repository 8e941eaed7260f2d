use Rattle.std.proofs.Common.{◌≡◌, map, drop}
use Rattle.std.specs.Option.{option_map}
use Rattle.a2l.specs.Names.{place_of}
use Rattle.a2l_entries.specs.MeasurementSaid.{measurement_seen}
use Rattle.a2l_entries.specs.MethodSaid.{method_seen}
use Rattle.a2l.specs.Resolved.{described_measurement, value_of, all_of, present, values_of, with_front}
use Rattle.a2l.proofs.resolving.add_measurements.Given as goal

-- the measurements so far and those that are left are all
abbrev pub invariant-loop-measurement : goal.invariant-loop-measurement
invariant-loop-measurement l =
    with_front (map described_measurement l.out.items)
    (option_map present (all_of (value_of l.fn.order l.before (λ name. place_of name (map (λ m. m.name) (map method_seen l.methods)))) (map measurement_seen (drop l.measurement-index l.measurements))))
    ≡ with_front (map described_measurement l.fn.out.items) (values_of l.fn.order l.before (map method_seen l.methods) (map measurement_seen l.measurements))
