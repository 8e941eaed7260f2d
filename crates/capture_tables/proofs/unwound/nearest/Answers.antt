use Rattle.std.proofs.Common.{◌≡◌, ◌+◌, ◌-◌, ◌*◌, arith}
use Rattle.capture_tables.proofs.ClockLemmas.{is_nearest}
use Rattle.capture_tables.proofs.unwound.nearest.Goals as goal

-- as many wraps as round what passed
pub returns-in-Ok : goal.returns-in-Ok
returns-in-Ok c =
    let last = c.args.last in
    let ahead = c.args.ahead in
    let wrap = c.args.wrap in
    let wraps = c.wraps_to-wraps in
    let both : wrap - ahead + ahead ≡ wrap = omega arith in
    let is : c.in-Ok.at + wrap ≡ last + ahead + wraps.result * wrap =
    omega (arith, c.in-Ok.ensures, c.in_ok-at.ensures) in
    is_nearest last ahead (wrap - ahead) wrap wraps.result c.in-Ok.at c.args.passed both is
    wraps.ensures.least wraps.ensures.most
