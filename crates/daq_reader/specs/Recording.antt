-- Recordings of whole samples: frames whose packets are those of samples of several lists, and what
-- a reader gives back of them.
use Rattle.std.specs.Prelude.{◌≡◌, ℕ, ◌<◌, All, List, [], ◌++◌, length, flat_map, slice_get, Some}
use Rattle.frame_writer.specs.Frame.{text}
use Rattle.frame_writer.specs.Split.{Fits}
use Rattle.copy_plan.specs.Config.{IsPlan, ListPlan}
use Rattle.daq_reader.specs.Frames.{Unread}
use Rattle.daq_reader.specs.Lists.{given, of_place, place_in}
use Rattle.daq_reader.specs.Reading.{Reading, under_way}
use Rattle.daq_reader.specs.Recorded.{IsRecorded, Recorded, packets_of}

-- packets of one list are those of these samples of it, each whole, once and in order
pub record AreWhole (plan : ListPlan) (rs : List Recorded) (qs : List (List ℕ)) : Type 0 where
  pub legal : IsPlan plan
  pub each : All (IsRecorded plan) rs
  pub packets : qs ≡ flat_map (packets_of plan) rs

-- packets are those of these samples, each of which stands with the place of its list: each packet
-- is of some list, and those of each list are the packets of its samples. Packets of several lists
-- may come in any order
pub record AreSampled (plans : List ListPlan) (samples : List (ℕ × Recorded)) (qs : List (List ℕ))
    : Type 0 where
  pub known : All (λ (q : List ℕ). place_in plans q < length plans) qs
  pub each :
      (i : ℕ) (plan : ListPlan) → slice_get plans i ≡ Some plan
      → AreWhole plan (given i samples) (of_place plans i qs)

-- what is to be read are the frames of packets which, behind those that were read before, are the
-- packets of these samples
pub record IsRecordingOf (plans : List ListPlan) (samples : List (ℕ × Recorded))
    (before : List (List ℕ)) (a : Unread)
    : Type 0 where
  -- fixed by `bytes`
  pub packets : List (List ℕ)
  pub legal : All Fits packets
  pub bytes : a.rest ≡ text a.counter packets
  pub are : AreSampled plans samples (before ++ packets)

-- of these samples those of each list were given back, once and in order, and no packet waits
abbrev pub AreGivenBack : List Reading → List (ℕ × Recorded) → List (ℕ × Recorded) → Type 0
AreGivenBack lists samples back =
    (i : ℕ) (a : Reading) → slice_get lists i ≡ Some a
    → (given i back ≡ given i samples) × (under_way a ≡ [])
