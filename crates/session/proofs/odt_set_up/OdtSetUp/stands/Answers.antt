use Rattle.std.proofs.Common.{◌≡◌, ◌<◌, ◌+◌, List, Option, length, take, sym, subst, arith}
use Rattle.daq_store.specs.declared.entry.Entry.{Entry}
use Rattle.daq_store.specs.Configuration.{odt_entries}
use Rattle.session.proofs.SetUpLemmas.{same_entries-next}
use Rattle.session.proofs.odt_set_up.OdtSetUp.stands.Goals as goal

-- one entry more is the same
pub loop-entry-preserved : goal.loop-entry-preserved
loop-entry-preserved c =
    let i = c.loop-entry.entry in
    let theirs = odt_entries c.args.conf.now c.args.odt in
    let inside : i < length theirs = omega (arith, c.loop-entry-test.true, c.entries.ensures.count, c.if-entries-len.false, c.len.ensures, c.len-entry-end.ensures) in
    let long : i < length c.self.inside.entries.items = omega (arith, c.loop-entry-test.true, c.len-entry-end.ensures) in
    let P : List (Option Entry) → Type 0 = λ es. take i es ≡ take i theirs in
    let Q : List (Option Entry) → Type 0 = λ es. take (i + 1) es ≡ take (i + 1) theirs in
    subst Q c.self.view_is
    (same_entries-next c.self.inside.entries.items c.args.conf.now c.args.odt i c.index.result.now c.written.result long inside c.index.ensures c.written.ensures.value
    (c.is_same_entry.ensures.value.0 c.if-not-is_same_entry.false) (subst P (sym c.self.view_is) c.loop-entry.invariant))
