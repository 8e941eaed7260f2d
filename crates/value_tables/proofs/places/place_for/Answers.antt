use Rattle.std.proofs.Common.{◌∙◌, sym}
use Rattle.value_tables.proofs.PlaceLemmas.{entry_within}
use Rattle.value_tables.proofs.places.place_for.Goals as goal

-- the source is in one of the entries
pub entries_len-entries-requires-clause-few : goal.entries_len-entries-requires-clause-few
entries_len-entries-requires-clause-few c =
    entry_within c.args.shape.now _ _ c.in_ok-source.source (sym c.source_of.ensures ∙ c.in_ok-source.was)
