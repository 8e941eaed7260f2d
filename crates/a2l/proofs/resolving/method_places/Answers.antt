use Rattle.std.proofs.Common.{string_bytes, arith}
use Rattle.std.specs.BTreeMap.{get_by_text}
use Rattle.a2l_entries.specs.declared.method_block.MethodBlock.{MethodBlock}
use Rattle.a2l.proofs.NameLemmas.{places_go_on}
use Rattle.a2l.proofs.resolving.method_places.Goals as goal

pub loop-place-preserved : goal.loop-place-preserved
loop-place-preserved c =
    places_go_on (λ (m : MethodBlock). string_bytes m.name) c.args.methods.now c.loop-place.place c.index-methods-place.result _ (get_by_text c.loop-place.places) (get_by_text c.note.new.places)
    (omega (arith, c.loop-place-test.true)) c.index-methods-place.is c.as_str.ensures.value c.loop-place.invariant c.in_ok-note.ensures
