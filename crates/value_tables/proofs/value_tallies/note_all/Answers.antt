use Rattle.std.proofs.Common.{◌<◌, arith, length, None}
use Rattle.std.proofs.lemmas.Option.{slice_get-get_or}
use Rattle.sample_tables.proofs.PrintedLemmas.{there}
use Rattle.value_tables.proofs.TallyLemmas.{notes_more}
use Rattle.value_tables.proofs.value_tallies.note_all.Goals as goal

-- the value of one column more
pub loop-c-preserved : goal.loop-c-preserved
loop-c-preserved c =
    let at = c.loop-c.c in
    let columns = c.args.columns.now in
    let sources = c.args.sources.now in
    let within : at < length c.loop-c.tallies = omega (arith, c.loop-c-test.true, c.requires.columns, c.loop-c.auto.tallies) in
    let listed : at < length sources = omega (arith, c.loop-c-test.true, c.requires.columns, c.requires.sources) in
    notes_more c.args.sample.now.sample columns sources c.args.tallies.now c.loop-c.tallies at c.index-columns-c.result _ _ c.note_one.new.tally
    within (there columns at c.index-columns-c.result c.loop-c-test.true c.index-columns-c.is) (slice_get-get_or sources at None listed) (slice_get-get_or c.loop-c.tallies at _ within)
    c.loop-c.invariant c.note_one.ensures
