use Rattle.std.proofs.Common.{◌<◌, length, arith}
use Rattle.daq_store.specs.Configuration.{odt_entries}
use Rattle.session.proofs.SetUpLemmas.{entries-next}
use Rattle.session.proofs.odt_set_up.OdtSetUp.of.Goals as goal

-- one entry more is held
pub loop-entry-preserved : goal.loop-entry-preserved
loop-entry-preserved c =
    let i = c.loop-entry.entry in
    let inside : i < length (odt_entries c.args.conf.now c.args.odt) = omega (arith, c.loop-entry-test.true, c.entries-entry-end.ensures.count) in
    entries-next c.loop-entry.entries.items c.push.new.self.items c.args.conf.now c.args.odt i c.written.result inside c.written.ensures.value c.in_ok-push.ensures.items c.loop-entry.invariant
