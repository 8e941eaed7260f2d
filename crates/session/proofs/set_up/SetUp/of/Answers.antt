use Rattle.std.proofs.Common.{◌<◌, length, arith}
use Rattle.session.proofs.SetUpLemmas.{odts-next}
use Rattle.session.proofs.set_up.SetUp.of.Goals as goal

-- one ODT more is held
pub loop-odt-preserved : goal.loop-odt-preserved
loop-odt-preserved c =
    let k = c.loop-odt.odt in
    let inside : k < length c.args.conf.now.odts = omega (arith, c.loop-odt-test.true, c.odts-odt-end.ensures.count) in
    odts-next c.loop-odt.odts.items c.push.new.self.items c.args.conf.now k c.in_ok-of.field-0 inside c.in_ok-of.ensures.value c.in_ok-push.ensures.items c.loop-odt.invariant
