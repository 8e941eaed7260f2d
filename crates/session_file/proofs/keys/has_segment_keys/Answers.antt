use Rattle.std.proofs.Common.{string_bytes, ◌∙◌, rules, tests}
use Rattle.std.specs.Map.{keys_of}
use Rattle.std.proofs.lemmas.Iterator.Consumers.{YieldsList-from_rest}
use Rattle.std.proofs.lemmas.Iterator.Search.{all_from_yields_List}
use Rattle.run_file.specs.Keys.{is_among}
use Rattle.session_file.specs.Memory.{segment_keys}
use Rattle.session_file.proofs.ItemLemmas.{only_keys-entries}
use Rattle.session_file.proofs.keys.has_segment_keys.Goals as goal

pub returns : goal.returns
returns c =
    all_from_yields_List (λ k. is_among segment_keys (string_bytes k)) _ _ _ c.all.ensures.ran (YieldsList-from_rest (keys_of c.args.table.now.entries) cc) (λ x b q k. search (rules, tests))
    ∙ only_keys-entries segment_keys c.args.table.now.entries
