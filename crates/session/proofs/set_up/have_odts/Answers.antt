use Rattle.std.proofs.Common.{◌<◌, length, arith}
use Rattle.session.proofs.SetUpLemmas.{same_odts-next}
use Rattle.session.proofs.set_up.have_odts.Goals as goal

-- one ODT more is the same
pub loop-odt-preserved : goal.loop-odt-preserved
loop-odt-preserved c =
    let k = c.loop-odt.odt in
    let inside : k < length c.args.conf.now.odts = omega (arith, c.loop-odt-test.true, c.odts.ensures.count, c.if-odts.false) in
    same_odts-next c.args.odts.now c.args.conf.now k c.index-odts-odt.result c.loop-odt-test.true inside c.index-odts-odt.is (c.stands.ensures.value.0 c.if-not-stands.false) c.loop-odt.invariant
