use Rattle.std.proofs.Common.{string_bytes}
use Rattle.std.specs.BTreeMap.{get_by_text}
use Rattle.std.proofs.lemmas.Map.Text.{btree_map_updates_text}
use Rattle.a2l.proofs.NameLemmas.{notes, absent_from}
use Rattle.a2l.proofs.names.note.Goals as goal

-- the key has the name's bytes, and the name had no place
pub returns : goal.returns
returns c =
    let sets = btree_map_updates_text (string_bytes c.in_ok-key.key) c.args.places.now c.insert.new.self _ c.in_ok-insert.ensures.updates in
    notes (get_by_text c.args.places.now) (get_by_text c.insert.new.self) (string_bytes c.in_ok-key.key) c.args.name.now c.args.place c.in_ok-key.ensures.ok
    (absent_from _ _ c.contains_key.ensures c.if-contains_key.false) sets
