use Rattle.std.proofs.Common.{string_bytes, arith}
use Rattle.std.specs.BTreeMap.{get_by_text}
use Rattle.a2l_entries.specs.declared.table_block.TableBlock.{TableBlock}
use Rattle.a2l.proofs.NameLemmas.{places_go_on}
use Rattle.a2l.proofs.resolving.table_places.Goals as goal

pub loop-place-preserved : goal.loop-place-preserved
loop-place-preserved c =
    places_go_on (λ (m : TableBlock). string_bytes m.name) c.args.tables.now c.loop-place.place c.index-tables-place.result _ (get_by_text c.loop-place.places) (get_by_text c.note.new.places)
    (omega (arith, c.loop-place-test.true)) c.index-tables-place.is c.as_str.ensures.value c.loop-place.invariant c.in_ok-note.ensures
