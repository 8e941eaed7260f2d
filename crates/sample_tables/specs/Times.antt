-- The times of samples: the ticks of their timestamps, with those that wrapped.
use Rattle.std.specs.Prelude.{◌≡◌, ◌==◌, ◌&&◌, ℕ, ◌+◌, ◌-◌, ◌*◌, ◌%◌, ◌^◌, ◌<◌, nat_le, nat_lt, min}
use Rattle.std.specs.Prelude.{if◌then◌else◌, List, [], ◌∷◌, length, slice_get, Option, None, Some}
use Rattle.xcp_base.specs.declared.stamp_size.StampSize.{StampSize}
use Rattle.xcp_base.specs.Forms.{stamp_bytes}
use Rattle.copy_plan.specs.Config.{ListPlan}
use Rattle.daq_reader.specs.Recorded.{Recorded}
use Rattle.sample_tables.specs.declared.times.Stand.{Stand}
use Rattle.sample_tables.specs.declared.times.Times.{Times}

-- the ticks from some to others, modulo what a timestamp of this size counts
abbrev pub ticks_on : StampSize → ℕ → ℕ → ℕ
ticks_on size before after = (2 ^ 32 + after - before) % 2 ^ 32 % 2 ^ (8 * stamp_bytes size)

-- so many ticks behind a time, which stops at the greatest number
abbrev pub later : ℕ → ℕ → ℕ
later at ticks = min (at + ticks) (2 ^ 64 - 1)

-- the time of ticks that is nearest to where others stand; the later one if two are as near, or
-- if the earlier one would be before 0
abbrev pub nearest : StampSize → Stand → ℕ → ℕ
nearest size other ticks =
    let on = ticks_on size other.ticks ticks in
    let back = ticks_on size ticks other.ticks in
    if nat_lt back on && nat_le back other.at then other.at - back else later other.at on

-- the time of ticks behind others: in a list less than one wrap behind the last ones of this list;
-- the first ones of a list nearest to the last ones of any; the first ones of all are their time
abbrev pub time_behind : StampSize → Option Stand → Option Stand → ℕ → ℕ
time_behind size (Some own) any ticks = later own.at (ticks_on size own.ticks ticks)
time_behind size None (Some any) ticks = nearest size any ticks
time_behind size None None ticks = ticks

-- ticks and the times that they stand for, each with the place of its list, the newest first: the
-- last ones of any list, and those of the list at a place
abbrev pub last_of_all : List (ℕ × Stand) → Option Stand
last_of_all [] = None
last_of_all (s ∷ earlier) = Some s.1

abbrev pub last_of_list : ℕ → List (ℕ × Stand) → Option Stand
last_of_list place [] = None
last_of_list place (s ∷ earlier) = if s.0 == place then Some s.1 else last_of_list place earlier

-- the time of ticks of the list at a place, behind earlier ones
abbrev pub time_of : StampSize → ℕ → List (ℕ × Stand) → ℕ → ℕ
time_of size place earlier ticks =
    time_behind size (last_of_list place earlier) (last_of_all earlier) ticks

-- the same of a timestamp, if there is one
abbrev pub time_at : StampSize → ℕ → List (ℕ × Stand) → Option ℕ → Option ℕ
time_at size place earlier None = None
time_at size place earlier (Some ticks) = Some (time_of size place earlier ticks)

-- these ticks too, if there are any
abbrev pub stands_with : StampSize → ℕ → List (ℕ × Stand) → Option ℕ → List (ℕ × Stand)
stands_with size place earlier None = earlier
stands_with size place earlier (Some ticks) =
    (place, record { ticks = ticks; at = time_of size place earlier ticks }) ∷ earlier

-- those of a sample too, which is of a list, if there is one
abbrev pub stands_in :
    Option ListPlan → ℕ → List (ℕ × Stand) → Option ℕ → List (ℕ × Stand)
stands_in None place earlier stamp = earlier
stands_in (Some plan) place earlier stamp = stands_with plan.form.stamp place earlier stamp

-- those of samples, the newest first
abbrev pub stands_of : List ListPlan → List (ℕ × Recorded) → List (ℕ × Stand)
stands_of plans [] = []
stands_of plans (s ∷ earlier) =
    stands_in (slice_get plans s.0) s.0 (stands_of plans earlier) s.1.stamp

-- the last ones of all and of each list are known
pub record KnowsLast (t : Times) (earlier : List (ℕ × Stand)) : Type 0 where
  pub last : t.last ≡ last_of_all earlier
  pub each :
      (i : ℕ) → i < length t.lists.items
      → slice_get t.lists.items i ≡ Some (last_of_list i earlier)
