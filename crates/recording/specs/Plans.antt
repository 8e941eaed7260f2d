-- The DAQ lists of all event channels, as a reader has them.
use Rattle.std.specs.Prelude.{◌≡◌, ℕ, ◌<◌, List, filter, length, map, slice_get, Some}
use Rattle.copy_plan.specs.Config.{ListPlan}
use Rattle.daq_store.specs.Calls.{numbers_below}
use Rattle.daq_store.specs.Configuration.{is_ready}
use Rattle.daq_store.specs.Standing.{StoreState, conf_of}
use Rattle.daq_engine.specs.Openings.{IsOpeningOf, list_plan}
use Rattle.sampler.specs.Past.{Past}

-- the plans are those that n channels were opened with: each of these, at one place, and no other
pub record AreAllPlans (n : ℕ) (past : ℕ → Past) (plans : List ListPlan) : Type 0 where
  pub each :
      (c k : ℕ) (plan : ListPlan) → c < n → slice_get (past c).opening.plans k ≡ Some plan
      → (i : ℕ) × (slice_get plans i ≡ Some plan)
  pub once :
      (i j : ℕ) (plan : ListPlan) → slice_get plans i ≡ Some plan → slice_get plans j ≡ Some plan
      → i ≡ j
  pub no_other :
      (i : ℕ) (plan : ListPlan) → slice_get plans i ≡ Some plan
      → (c : ℕ) × (k : ℕ) × (c < n) × (slice_get (past c).opening.plans k ≡ Some plan)

-- the plans of the ready lists of a store, in rising list number
abbrev pub plans_in : StoreState → List ListPlan
plans_in s =
    map (list_plan s)
    (filter (λ l. is_ready s.profile.segments (conf_of s l)) (numbers_below (length s.lists)))

-- they are all that an engine over the store is opened with
abbrev pub HasAllPlans : StoreState → Type 0
HasAllPlans s =
    (past : ℕ → Past) → ((c : ℕ) → c < s.profile.channels → IsOpeningOf s c (past c).opening)
    → AreAllPlans s.profile.channels past (plans_in s)
