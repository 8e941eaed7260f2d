use Rattle.value_tables.specs.Places.{entry_bytes}
use Rattle.value_tables.proofs.PlaceLemmas.{numbers_more}
use Rattle.value_tables.proofs.places.push_odt.Goals as goal

-- the bytes of one entry more
pub loop-e-preserved : goal.loop-e-preserved
loop-e-preserved c =
    numbers_more c.push_entry.new.out.items c.loop-e.out.items c.args.out.now.items (entry_bytes c.args.sample.now.sample c.args.k) c.loop-e.e
    c.loop-e.invariant c.in_ok-push_entry.ensures
