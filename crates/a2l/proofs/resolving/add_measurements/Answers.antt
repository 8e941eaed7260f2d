use Rattle.std.proofs.Common.{Option, map, refl, sym, ap, subst, ◌∙◌}
use Rattle.std.proofs.lemmas.Result.{err_from_is_err_and}
use Rattle.std.specs.BTreeMap.{get_by_text}
use Rattle.a2l_entries.specs.Gives.{Stops}
use Rattle.a2l.specs.Names.{place_of}
use Rattle.a2l_entries.specs.MeasurementSaid.{measurement_seen}
use Rattle.a2l_entries.specs.MethodSaid.{method_seen}
use Rattle.a2l.specs.Resolved.{described_measurement, value_of, values_of, kept_behind, Value}
use Rattle.a2l.proofs.ResolveLemmas.{kept_go_on, kept_stop, same_values}
use Rattle.a2l.proofs.resolving.add_measurements.Goals as goal

pub loop-measurement-init : goal.loop-measurement-init
unfolding values_of
loop-measurement-init c = refl

pub returns-in_err-add_measurement : goal.returns-in_err-add_measurement
returns-in_err-add_measurement c =
    let p = err_from_is_err_and c.from_residual-in_err-add_measurement.result c.from_residual-in_err-add_measurement.ensures.1 in
    let front = map described_measurement c.loop-measurement.out.items in
    let e = c.in_err-add_measurement.field-0.0 in
    let m = measurement_seen c.measurement-item.result in
    let same = same_values c.args.order c.args.before c.args.methods.now (get_by_text c.in_ok-places.places) m c.in_ok-places.ensures in
    rw (p.1, p.2) (kept_stop measurement_seen (value_of c.args.order c.args.before (λ n. place_of n (map (λ q. q.name) (map method_seen c.args.methods.now)))) e c.args.measurements.now c.loop-measurement.measurement-index c.measurement-item.result front _
    c.loop-measurement-test.true c.measurement-item.is (subst (λ (v : Option (Option Value)). Stops e (kept_behind front v)) same c.in_err-add_measurement.ensures) c.loop-measurement.invariant)

pub loop-measurement-preserved : goal.loop-measurement-preserved
loop-measurement-preserved c =
    let front = map described_measurement c.loop-measurement.out.items in
    let m = measurement_seen c.measurement-item.result in
    let same = same_values c.args.order c.args.before c.args.methods.now (get_by_text c.in_ok-places.places) m c.in_ok-places.ensures in
    kept_go_on measurement_seen (value_of c.args.order c.args.before (λ n. place_of n (map (λ q. q.name) (map method_seen c.args.methods.now)))) c.args.measurements.now c.loop-measurement.measurement-index c.measurement-item.result front _ _
    c.loop-measurement-test.true c.measurement-item.is (ap (kept_behind front) (sym same) ∙ c.in_ok-add_measurement.ensures) c.loop-measurement.invariant
