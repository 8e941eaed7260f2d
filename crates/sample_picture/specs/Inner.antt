-- What the calls make of rows, as plain data.
use Rattle.std.specs.Prelude.{ℕ, ◌+◌, ◌-◌, ◌/◌, ◌%◌, ◌^◌, ◌≤◌, min, max, suc, Bool, List, ⊤}
use Rattle.std.specs.Prelude.{[], ◌∷◌, ◌++◌, get_or, set, replicate, if◌then◌else◌, zero}
use Rattle.sample_picture.specs.declared.row.Row.{Row}
use Rattle.sample_picture.specs.declared.mark.Mark.{Mark}
use Rattle.sample_picture.specs.declared.mark.Mark.TheVariants.{Empty}
use Rattle.sample_picture.specs.Marks.{mark_of, with_mark}
use Rattle.sample_picture.specs.Gathered.{Given}
use Rattle.sample_picture.specs.Shown.{Gathered}

-- a number that stops at the greatest one
abbrev pub one_more : ℕ → ℕ
one_more n = min (n + 1) (2 ^ 64 - 1)

-- what is seen at a slot is seen with this too
abbrev pub put_mark : List Mark → ℕ → Mark → List Mark
put_mark bins slot mark = set bins slot (with_mark mark (get_or bins slot Empty))

-- a row of no sample
abbrev pub fresh_row : ℕ → ℕ → Row
fresh_row l c =
    record {
      list = l;
      channel = c;
      samples = 0;
      overloads = 0;
      first = 2 ^ 64 - 1;
      last = 0;
      bins = replicate 1024 Empty;
    }

-- a row with one more sample
abbrev pub noted : Row → ℕ → ℕ → Bool → Row
noted row slot at overload =
    record row {
      samples = one_more row.samples;
      overloads = if overload then one_more row.overloads else row.overloads;
      first = min at row.first;
      last = max at row.last;
      bins = put_mark row.bins slot (mark_of overload);
    }

-- `count` bins from this one on, each put to the slot of the bin of twice as many places
abbrev pub merged : List Mark → ℕ → ℕ → List Mark
merged bins from zero = replicate 1024 Empty
merged bins from (suc count) =
    let bin = from + count in
    put_mark (merged bins from count) (bin / 2 % 1024) (get_or bins (bin % 1024) Empty)

-- a row whose bins have twice as many places
abbrev pub doubled_row : ℕ → ℕ → Row → Row
doubled_row from count row = record row { bins = merged row.bins from count }

-- a picture with one more row
abbrev pub with_row : ℕ → ℕ → Gathered → Gathered
with_row l c p = record p { rows = p.rows ++ fresh_row l c ∷ [] }

-- the numbers of a row's list and event channel
abbrev pub name_of : Row → ℕ × ℕ
name_of row = (row.list, row.channel)

-- a sample of the row with this number
abbrev pub given_at : ℕ → ℕ → Bool → Given
given_at number place mark = record {
  row = number;
  seen = record { at = place; overload = mark };
}

-- no sample lies beyond these places
abbrev pub AreWithin : ℕ → ℕ → List Given → Type 0
AreWithin low high [] = ⊤
AreWithin low high (g ∷ given) =
    (low ≤ g.seen.at) × (g.seen.at ≤ high) × AreWithin low high given
