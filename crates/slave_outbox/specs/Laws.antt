-- What follows from the definitions: behind a stop nothing of the list is written until its next
-- start.
use Rattle.std.specs.Prelude.{◌≡◌, ℕ, false, nat_eq, List, ◌∷◌, ◌++◌, filter}
use Rattle.std.specs.Prelude.{Bool}
use Rattle.std.specs.List.{list_any}
use Rattle.xcp_base.specs.Samples.{SampleParts}
use Rattle.slave_outbox.specs.Deeds.{Deed, Started, Stopped, Took, Unsent, passed}

abbrev pub is_start_of : ℕ → Deed → Bool
is_start_of l (Started k) = nat_eq k l
is_start_of l (Stopped k) = false
is_start_of l (Took x) = false
is_start_of l (Unsent k) = false

-- those of the samples that are of list l
abbrev pub samples_of : ℕ → List SampleParts → List SampleParts
samples_of l ss = filter (λ (s : SampleParts). nat_eq s.list l) ss

-- whatever was done since a stop of list l, and be it any items that came: as long as l wasn't
-- started again, the samples of l that were written are those from before the stop
abbrev pub NothingBehindAStop : Type 0
NothingBehindAStop =
    (before since : List Deed) (l : ℕ) → list_any (is_start_of l) since ≡ false
    → samples_of l (passed (since ++ Stopped l ∷ before)) ≡ samples_of l (passed before)
