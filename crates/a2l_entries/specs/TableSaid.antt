-- What a block COMPU_VTAB or COMPU_VTAB_RANGE says (ASAM MCD-2 MC, COMPU_VTAB).
use Rattle.std.specs.Prelude.{ℕ, List, map, codes, Option, Some, None}
use Rattle.std.specs.Prelude.{if◌then◌else◌, string_bytes}
use Rattle.std.specs.Option.{option_map}
use Rattle.std.specs.Float.Ieee.{Float}
use Rattle.a2l_text.specs.Tokens.{Token}
use Rattle.measured_values.specs.declared.text_table.TextRow.{TextRow}
use Rattle.measured_values.specs.declared.text_table.TextTable.{TextTable}
use Rattle.a2l_entries.specs.declared.table_block.TableBlock.{TableBlock}
use Rattle.a2l_entries.specs.Gives.{◌>>=◌}
use Rattle.a2l_entries.specs.Said.{first_of, integer_said, name_first, text_first, behind_text}
use Rattle.a2l_entries.specs.Said.{number_first}
use Rattle.a2l_entries.specs.Scans.{many}
use Rattle.a2l_entries.specs.Keywords.{is_keyword, behind_keyword}

-- the text of the values from least to greatest
pub record Row : Type 0 where
  pub least : Float
  pub greatest : Float
  pub text : List ℕ

abbrev pub row_seen : TextRow → Row
row_seen r = record { least = r.least; greatest = r.greatest; text = string_bytes r.text }

-- the rows, and the text of what no row takes in
pub record Texts : Type 0 where
  pub rows : List Row
  pub other : Option (List ℕ)

abbrev pub texts_seen : TextTable → Texts
texts_seen t =
    record { rows = map row_seen t.rows.items; other = option_map (λ s. string_bytes s) t.other }

pub record Named : Type 0 where
  pub name : List ℕ
  pub texts : Texts

abbrev pub table_seen : TableBlock → Named
table_seen t = record { name = string_bytes t.name; texts = texts_seen t.table }

-- a row of a COMPU_VTAB: a value and its text
unfoldable pub row_said : List Token → Option (Row × List Token)
row_said ws = do
  value ← number_first ws
  text ← text_first value.1
  Some (record { least = value.0; greatest = value.0; text = text.0 }, text.1)

-- a row of a COMPU_VTAB_RANGE: the least and the greatest value and their text
unfoldable pub range_row_said : List Token → Option (Row × List Token)
range_row_said ws = do
  least ← number_first ws
  greatest ← number_first least.1
  text ← text_first greatest.1
  Some (record { least = least.0; greatest = greatest.0; text = text.0 }, text.1)

unfoldable pub count_first : List Token → Option (ℕ × List Token)
count_first ws = do
  first ← first_of ws
  count ← integer_said first.0
  Some (count, first.1)

abbrev pub default_text : Option (List Token) → Option (Option (List ℕ))
default_text None = Some None
default_text (Some ws) = do
  text ← text_first ws
  Some (Some text.0)

-- the text behind DEFAULT_VALUE
unfoldable pub default_value_said : List Token → Option (Option (List ℕ))
default_value_said ws = default_text (behind_keyword (codes "DEFAULT_VALUE") ws)

abbrev pub verbal : Token → List Token → Option (List Token)
verbal w ws = if is_keyword (codes "TAB_VERB") w then Some ws else None

-- name, long identifier, TAB_VERB, the number of rows, the rows and DEFAULT_VALUE
unfoldable pub table_said : List Token → Option Named
table_said ws = do
  name ← name_first ws
  left ← behind_text name.1
  word ← first_of left
  behind ← verbal word.0 word.1
  count ← count_first behind
  rows ← many row_said count.0 count.1
  other ← default_value_said rows.1
  Some (record { name = name.0; texts = record { rows = rows.0; other = other } })

-- name, long identifier, the number of rows, the rows and DEFAULT_VALUE
unfoldable pub ranges_said : List Token → Option Named
ranges_said ws = do
  name ← name_first ws
  left ← behind_text name.1
  count ← count_first left
  rows ← many range_row_said count.0 count.1
  other ← default_value_said rows.1
  Some (record { name = name.0; texts = record { rows = rows.0; other = other } })
