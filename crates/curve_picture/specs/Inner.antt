-- What the calls make of bins and rows, as plain data.
use Rattle.std.specs.Prelude.{ℕ, zero, suc, ◌+◌, ◌-◌, ◌/◌, ◌%◌, ◌^◌, min, max, nat_lt}
use Rattle.std.specs.Prelude.{Bool, false, ◌||◌, if◌then◌else◌, Option, None, Some}
use Rattle.std.specs.Prelude.{List, get_or, set, replicate}
use Rattle.std.specs.Float.{Float, float_is_finite}
use Rattle.std.specs.Float.Ieee.{lt}
use Rattle.curve_picture.specs.declared.bin.Bin.{Bin}
use Rattle.curve_picture.specs.declared.point.Point.{Point}
use Rattle.curve_picture.specs.declared.row.Row.{Row}
use Rattle.curve_picture.specs.declared.stretch.Stretch.{Stretch}

-- of two numbers
abbrev pub lesser : Float → Float → Float
lesser a b = if lt b a then b else a

abbrev pub greater : Float → Float → Float
greater a b = if lt a b then b else a

-- of two points
abbrev pub earlier : Point → Point → Point
earlier p q = if nat_lt q.at p.at then q else p

abbrev pub later : Point → Point → Point
later p q = if nat_lt p.at q.at then q else p

-- the stretch of one value
abbrev pub stretch_of : Point → Stretch
stretch_of p = record { least = p.value; greatest = p.value; first = p; last = p }

-- the stretch of the values of two
abbrev pub joined : Stretch → Stretch → Stretch
joined a b = record {
  least = lesser a.least b.least;
  greatest = greater a.greatest b.greatest;
  first = earlier a.first b.first;
  last = later a.last b.last;
}

abbrev pub joined_curve : Option Stretch → Option Stretch → Option Stretch
joined_curve None b = b
joined_curve (Some a) None = Some a
joined_curve (Some a) (Some b) = Some (joined a b)

-- the bin of no value, of one, and of the values of two
abbrev pub empty_bin : Bin
empty_bin = record { curve = None; lost = false }

abbrev pub bin_of : Point → Bool → Bin
bin_of p mark = record {
  curve = if float_is_finite p.value then Some (stretch_of p) else None;
  lost = mark;
}

abbrev pub joined_bin : Bin → Bin → Bin
joined_bin a b = record { curve = joined_curve a.curve b.curve; lost = a.lost || b.lost }

-- a slot has the values of this bin too
abbrev pub put_bin : List Bin → ℕ → Bin → List Bin
put_bin bins slot bin = set bins slot (joined_bin bin (get_or bins slot empty_bin))

-- a row of no value
abbrev pub fresh_row : Row
fresh_row =
    record { values = 0; first = 2 ^ 64 - 1; last = 0; bins = replicate 1024 empty_bin }

-- a row with one more value
abbrev pub noted : Row → ℕ → Point → Bool → Row
noted row slot p mark =
    record {
      values = min (row.values + 1) (2 ^ 64 - 1);
      first = min p.at row.first;
      last = max p.at row.last;
      bins = put_bin row.bins slot (bin_of p mark);
    }

-- `count` bins from this one on, each put to the slot of the bin of twice as many places
abbrev pub merged : List Bin → ℕ → ℕ → List Bin
merged bins from zero = replicate 1024 empty_bin
merged bins from (suc count) =
    let bin = from + count in
    put_bin (merged bins from count) (bin / 2 % 1024) (get_or bins (bin % 1024) empty_bin)

-- a row whose bins have twice as many places
abbrev pub doubled_row : ℕ → ℕ → Row → Row
doubled_row from count row = record row { bins = merged row.bins from count }
