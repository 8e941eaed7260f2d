-- Where samples stand: their numbers in their lists, and their times.
use Rattle.std.specs.Prelude.{◌≡◌, ℕ, ◌%◌, ◌^◌, ◌<◌, List, length, slice_get, Option, None, Some}
use Rattle.copy_plan.specs.Config.{ListPlan}
use Rattle.daq_reader.specs.Lists.{given}
use Rattle.daq_reader.specs.Recorded.{Recorded}
use Rattle.sample_tables.specs.Times.{KnowsLast, stands_of, time_at}
use Rattle.sample_tables.specs.declared.spot.Spot.{Spot}
use Rattle.sample_tables.specs.declared.spots.Spots.{Spots}
use Rattle.sample_tables.specs.declared.times.Stand.{Stand}

-- the time of a sample of a list, if there is one
abbrev pub time_in : Option ListPlan → ℕ → List (ℕ × Stand) → Option ℕ → Option ℕ
time_in None place earlier stamp = None
time_in (Some plan) place earlier stamp = time_at plan.form.stamp place earlier stamp

-- where a sample of the list at a place stands behind earlier ones, the newest first: as many of
-- its list came, and its time is that of its ticks behind theirs
abbrev pub spot_of : List ListPlan → List (ℕ × Recorded) → ℕ → Recorded → Spot
spot_of plans earlier place r = record {
  number = length (given place earlier) % 2 ^ 64;
  time = time_in (slice_get plans place) place (stands_of plans earlier) r.stamp;
}

-- how many samples of each list came
abbrev pub AreNumbers : List ℕ → List (ℕ × Recorded) → Type 0
AreNumbers numbers earlier =
    (i : ℕ) → i < length numbers
    → slice_get numbers i ≡ Some (length (given i earlier) % 2 ^ 64)

-- of each list is known how many samples came, and the last time
pub record KnowsSpots (spots : Spots) (plans : List ListPlan) (earlier : List (ℕ × Recorded))
    : Type 0 where
  pub all : length spots.numbers.items ≡ length plans
  pub all_times : length spots.times.lists.items ≡ length plans
  pub numbers : AreNumbers spots.numbers.items earlier
  pub times : KnowsLast spots.times (stands_of plans earlier)
