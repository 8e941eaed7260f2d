use Rattle.std.proofs.Common.{string_bytes}
use Rattle.std.specs.BTreeMap.{get_by_text}
use Rattle.std.proofs.lemmas.Map.Text.{btree_map_updates_text}
use Rattle.mdf_groups.proofs.NameLemmas.{takes_key}
use Rattle.mdf_groups.proofs.names.note.Goals as goal

-- the key has the name's bytes
pub returns : goal.returns
returns c =
    takes_key (get_by_text c.args.numbers.now) (get_by_text c.insert.new.self)
    (string_bytes c.in_ok-key.key) c.args.name.now c.args.number c.in_ok-key.ensures.ok
    (btree_map_updates_text (string_bytes c.in_ok-key.key) c.args.numbers.now c.insert.new.self _
    c.in_ok-insert.ensures.updates)
