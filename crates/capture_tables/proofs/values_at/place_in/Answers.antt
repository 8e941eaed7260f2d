use Rattle.std.proofs.Common.{[], ◌+◌, ◌<◌, ◌++◌, arith, drop, get_or, length, subst, suc, sym, take}
use Rattle.measured_values.specs.Encodings.{size_of}
use Rattle.capture_tables.specs.Places.{IsPlace}
use Rattle.capture_tables.proofs.PlaceLemmas.{behind_others, joined, joined-parted}
use Rattle.capture_tables.proofs.values_at.place_in.Goals as goal

-- the ODTs before have no such entry
pub returns-in-Ok : goal.returns-in-Ok
returns-in-Ok c =
    let odts = c.args.list.now.odts in
    let k = c.loop-odt.odt in
    let size = size_of c.args.data_type in
    let address = c.args.address in
    let place = c.in-Ok.place in
    let within : k < length odts = omega (arith, c.loop-odt-test.true, c.odts-odt-end.ensures.value) in
    let here = subst (λ es. IsPlace es address size place) c.entries.ensures.value c.in-Ok.ensures.place in
    let all =
    behind_others (joined (take k odts)) (get_or odts k []) (joined (drop (suc k) odts)) address
    size place c.loop-odt.invariant.2 here in
    subst (λ es. IsPlace es address size (c.loop-odt.before + place)) (sym (joined-parted odts k within))
    (subst (λ n. IsPlace (joined (take k odts) ++ (get_or odts k [] ++ joined (drop (suc k) odts))) address size (n + place))
    (sym c.loop-odt.invariant.0) all)
