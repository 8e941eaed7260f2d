-- Sets of DAQ lists, as numbers in which bit l stands for list l.
use Rattle.std.specs.Prelude.{◌≡◌, ℕ, Bool, List, map, nat_eq}
use Rattle.std.specs.List.{list_any}
use Rattle.copy_plan.specs.Config.{ListPlan}
use Rattle.xcp_base.specs.Lists.{has_list}

-- the set has the lists of these plans and no others
abbrev pub IsSetOf : ℕ → List ListPlan → Type 0
IsSetOf set plans =
    (l : ℕ) → has_list set l ≡ list_any (λ (plan : ListPlan). nat_eq plan.list l) plans

-- for each plan, whether its list is in the set
abbrev pub are_in : ℕ → List ListPlan → List Bool
are_in set plans = map (λ (plan : ListPlan). has_list set plan.list) plans
