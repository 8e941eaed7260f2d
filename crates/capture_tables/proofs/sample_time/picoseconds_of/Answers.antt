use Rattle.std.proofs.Common.{◌*◌, ◌^◌, ◌<◌, arith, rules}
use Rattle.capture_tables.proofs.ClockLemmas.{units_fit, units_some}
use Rattle.capture_tables.proofs.sample_time.picoseconds_of.Goals as goal

-- a tick of 65535 s is the longest
pub overflow_mul-result : goal.overflow_mul-result
overflow_mul-result c =
    let few : c.args.form.ticks < 65536 = search rules in
    let fits = units_fit c.args.form.ticks c.in_ok-power.power few c.in_ok-power.ensures.few in
    let product : c.args.form.ticks * c.pow.result < 2 ^ 64 = rw c.pow.ensures fits in
    omega (arith, product)

-- there is a unit
pub returns-clause-some : goal.returns-clause-some
returns-clause-some c =
    let some : 0 < c.args.form.ticks = omega arith in
    rw c.pow.ensures (units_some c.args.form.ticks c.in_ok-power.power some)
