use Rattle.std.proofs.Common.{◌≡◌, map, string_bytes, take}
use Rattle.std.specs.Option.{option_map}
use Rattle.mdf_groups.specs.Channels.{row_text}
use Rattle.mdf_groups.proofs.column_channel.table_texts.Given as goal

-- the texts of the places so far
abbrev pub invariant-loop-place : goal.invariant-loop-place
invariant-loop-place l =
    map (option_map string_bytes) l.texts.items
    ≡ map (λ p. row_text l.table p.row) (take l.place-index l.places)
