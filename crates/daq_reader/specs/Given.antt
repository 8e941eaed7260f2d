-- What was written of samples of several lists is taken, packet by packet, and these samples are
-- given back.
use Rattle.std.specs.Prelude.{◌≡◌, ℕ, All, List, [], ◌∷◌, ◌++◌, flat_map, slice_get, Some, None}
use Rattle.copy_plan.specs.Config.{IsPlan}
use Rattle.daq_reader.specs.Lists.{Stands, given, of_place, place_in, plans_of, refusal}
use Rattle.daq_reader.specs.Reading.{Reading, under_way}
use Rattle.daq_reader.specs.Recorded.{IsRecorded, Recorded, packets_of}

-- if the packets of a list are those of samples, and no packet waits for others any more, these
-- samples were given back for it
abbrev pub SamplesAreGivenBack : Type 0
SamplesAreGivenBack =
    (lists : List Reading) (qs : List (List ℕ)) (samples : List (ℕ × Recorded)) (i : ℕ)
    (a : Reading) (rs : List Recorded) → Stands lists qs samples → slice_get lists i ≡ Some a
    → IsPlan a.plan → All (IsRecorded a.plan) rs
    → of_place (plans_of lists) i qs ≡ flat_map (packets_of a.plan) rs
    → (given i samples ≡ rs) × (under_way a ≡ [])

-- the next of the packets is taken if, with those behind it, the packets of its list are those
-- of samples
abbrev pub SamplesAreTaken : Type 0
SamplesAreTaken =
    (lists : List Reading) (qs more : List (List ℕ)) (q : List ℕ) (samples : List (ℕ × Recorded))
    (a : Reading) (rs : List Recorded) → Stands lists qs samples
    → slice_get lists (place_in (plans_of lists) q) ≡ Some a → IsPlan a.plan
    → All (IsRecorded a.plan) rs
    → of_place (plans_of lists) (place_in (plans_of lists) q) (qs ++ q ∷ more)
    ≡ flat_map (packets_of a.plan) rs
    → refusal lists q ≡ None
