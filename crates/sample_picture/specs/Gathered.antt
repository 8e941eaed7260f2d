-- What a picture has gathered of its samples: the newest one comes first in each list.
use Rattle.std.specs.Prelude.{◌≡◌, ℕ, ◌+◌, ◌-◌, ◌/◌, ◌%◌, ◌^◌, ◌<◌, min, max, Bool, ⊤}
use Rattle.std.specs.Prelude.{List, [], ◌∷◌, length, slice_get, get_or, nat_eq, Some}
use Rattle.std.specs.Prelude.{if◌then◌else◌}
use Rattle.sample_picture.specs.declared.row.Row.{Row}
use Rattle.sample_picture.specs.declared.mark.Mark.TheVariants.{Empty}
use Rattle.sample_picture.specs.Marks.{Seen, mark_at}
use Rattle.sample_picture.specs.Scale.{IsFine, IsNear}
use Rattle.sample_picture.specs.Shown.{Gathered}

-- a sample, with the number of its row
pub record Given : Type 0 where
  pub row : ℕ
  pub seen : Seen

-- the samples of one row
abbrev pub samples_of : ℕ → List Given → List Seen
samples_of row [] = []
samples_of row (g ∷ given) =
    if nat_eq g.row row then g.seen ∷ samples_of row given else samples_of row given

-- those with the overload indication
abbrev pub overloads_of : List Seen → ℕ
overloads_of [] = 0
overloads_of (s ∷ seen) = if s.overload then overloads_of seen + 1 else overloads_of seen

-- the least and the greatest place; if there is none, the greatest number and 0
abbrev pub least : List Seen → ℕ
least [] = 2 ^ 64 - 1
least (s ∷ seen) = min s.at (least seen)

abbrev pub greatest : List Seen → ℕ
greatest [] = 0
greatest (s ∷ seen) = max s.at (greatest seen)

-- a place whose bin has this slot, if bins have this many places
abbrev pub has_slot : ℕ → ℕ → ℕ → Bool
has_slot width slot at = nat_eq (at / width % 1024) slot

-- a row has gathered these samples: totals stop at the greatest number, and each slot has what is
-- seen of the samples whose bin it is
pub record IsRowOf (width : ℕ) (row : Row) (seen : List Seen) : Type 0 where
  pub samples : row.samples ≡ min (length seen) (2 ^ 64 - 1)
  pub overloads : row.overloads ≡ min (overloads_of seen) (2 ^ 64 - 1)
  pub first : row.first ≡ least seen
  pub last : row.last ≡ greatest seen
  pub slots : length row.bins ≡ 1024
  pub bins :
      (slot : ℕ) → slot < 1024
      → get_or row.bins slot Empty ≡ mark_at (has_slot width slot) seen

-- the places of all samples
abbrev pub all_seen : List Given → List Seen
all_seen [] = []
all_seen (g ∷ given) = g.seen ∷ all_seen given

-- each row has gathered its samples
abbrev pub AreRowsOf : ℕ → List Row → List Given → Type 0
AreRowsOf width rows given =
    (k : ℕ) → (row : Row) → slice_get rows k ≡ Some row
    → IsRowOf width row (samples_of k given)

-- each sample is of one of so many rows
abbrev pub AreReal : ℕ → List Given → Type 0
AreReal count [] = ⊤
AreReal count (g ∷ given) = (g.row < count) × AreReal count given

-- a picture has gathered these samples: each is of one of its rows; their bins are fewer than 1024
-- apart, so that no two bins with samples have one slot; and bins are as fine as that leaves
pub record IsPictureOf (p : Gathered) (given : List Given) : Type 0 where
  pub real : AreReal (length p.rows) given
  pub first : p.first ≡ least (all_seen given)
  pub last : p.last ≡ greatest (all_seen given)
  pub positive : 0 < p.width
  pub near : IsNear p.width p.first p.last
  pub fine : IsFine p.width p.first p.last
  pub rows : AreRowsOf p.width p.rows given
