-- Where the packets of a sample stand: each in a place of its own.
use Rattle.std.specs.Prelude.{◌≡◌, ℕ, ◌≤◌, List, length, map, take}
use Rattle.std.specs.List.{range_with_len}
use Rattle.copy_plan.specs.Config.{ListPlan}
use Rattle.daq_reader.specs.Faults.{len_of}
use Rattle.daq_reader.specs.Reading.{Reading}
use Rattle.daq_reader.specs.Inner.Fitting.{IsReading}

-- there is a place for the packet of each ODT, of its length
abbrev pub HavePlaces : ListPlan → List (List ℕ) → Type 0
HavePlaces plan places =
    map (λ (q : List ℕ). length q) places
    ≡ map (len_of plan) (range_with_len 0 (length plan.odts))

-- the first so many hold the packets that were taken
abbrev pub reading_in : ListPlan → ℕ → List (List ℕ) → Reading
reading_in plan taken places = record { plan = plan; packets = take taken places }

pub record IsReader (plan : ListPlan) (taken : ℕ) (places : List (List ℕ)) : Type 0 where
  pub reading : IsReading (reading_in plan taken places)
  pub there : HavePlaces plan places
  pub few : taken ≤ length plan.odts
