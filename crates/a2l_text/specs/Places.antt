-- Lines and columns.
use Rattle.std.specs.Prelude.{ℕ, ◌+◌, Bool, List, ◌==◌, take, length, count_by}
use Rattle.std.specs.List.{after_last}
use Rattle.a2l_text.specs.declared.place.Place.{Place}

abbrev pub is_line_feed : ℕ → Bool
is_line_feed byte = byte == 10

-- one more than the line feeds before an offset, and than the bytes behind the last of them
abbrev pub place_at : List ℕ → ℕ → Place
place_at text offset = record {
  line = 1 + count_by is_line_feed (take offset text);
  column = 1 + length (after_last is_line_feed (take offset text));
}
