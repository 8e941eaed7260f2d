-- The history of an event channel, and the DAQ lists that are due at its triggers (ASAM MCD-1 XCP,
-- protocol layer, SET_DAQ_LIST_MODE: event channel and prescaler).
use Rattle.std.specs.Prelude.{ℕ, ◌%◌, Bool, true, false, ◌&&◌, not, nat_eq, Option, None, Some}
use Rattle.std.specs.Prelude.{List, [], ◌∷◌, ◌++◌, length, map, reverse, filter, find, flat_map}
use Rattle.std.specs.Prelude.{count_by, take_while}
use Rattle.std.specs.List.{list_any}
use Rattle.copy_plan.specs.Config.{ListPlan}
use Rattle.xcp_base.specs.Lists.{has_list}

-- what the sampler of a channel accepted: a trigger with its image and timestamp, a start or a stop
-- of a DAQ list
pub data Event : Type 0 where
  Trigger : (image : List ℕ) (stamp : ℕ) → Event
  Start : (list : ℕ) → Event
  Stop : (list : ℕ) → Event

-- what stood at the opening: the plans of the channel's lists, their numbers rising, and the set of
-- the lists that ran
pub record Opening : Type 0 where
  pub channel : ℕ
  pub plans : List ListPlan
  pub running : ℕ

-- list l is of the channel
abbrev pub is_list_of : Opening → ℕ → Bool
is_list_of opening l = list_any (λ (plan : ListPlan). nat_eq plan.list l) opening.plans

abbrev pub is_trigger : Event → Bool
is_trigger (Trigger image stamp) = true
is_trigger (Start k) = false
is_trigger (Stop k) = false

abbrev pub is_start : ℕ → Event → Bool
is_start l (Trigger image stamp) = false
is_start l (Start k) = nat_eq k l
is_start l (Stop k) = false

abbrev pub is_start_or_stop : ℕ → Event → Bool
is_start_or_stop l (Trigger image stamp) = false
is_start_or_stop l (Start k) = nat_eq k l
is_start_or_stop l (Stop k) = nat_eq k l

-- after the last start or stop of a list, it runs if that is a start; if there is none, as it
-- stood before
abbrev pub runs_since : Bool → Option Event → Bool
runs_since before None = before
runs_since before (Some (Trigger image stamp)) = before
runs_since before (Some (Start k)) = true
runs_since before (Some (Stop k)) = false

-- list l runs after the events in past: the last start or stop of l there is a start, or there is
-- none and l ran at the opening
unfoldable pub runs_after : Opening → List Event → ℕ → Bool
runs_after opening past l =
    runs_since (has_list opening.running l) (find (is_start_or_stop l) (reverse past))

-- the triggers in past after the last start of l there (without one, since the opening)
unfoldable pub triggers_since_start : List Event → ℕ → ℕ
triggers_since_start past l =
    count_by is_trigger (take_while (λ e. not (is_start l e)) (reverse past))

-- a trigger that follows past finds the list due: it runs, and the triggers since its start are a
-- multiple of the prescaler
unfoldable pub is_due : Opening → List Event → ListPlan → Bool
is_due opening past plan =
    runs_after opening past plan.list
    && nat_eq (triggers_since_start past plan.list % plan.prescaler) 0

-- the plans that are due at an event that follows past, their numbers rising
unfoldable pub due_at : Opening → List Event → Event → List ListPlan
due_at opening past (Trigger image stamp) = filter (is_due opening past) opening.plans
due_at opening past (Start k) = []
due_at opening past (Stop k) = []

-- each element with those before it, where past stands before all
unfoldable pub with_past : {X : Type 0} → List X → List X → List (List X × X)
with_past past [] = []
with_past past (x ∷ xs) = (past, x) ∷ with_past (past ++ x ∷ []) xs

-- the pairs (place, list number) of one event
abbrev pub pairs_at : Opening → List Event × Event → List (ℕ × ℕ)
pairs_at opening at =
    map (λ (plan : ListPlan). (length at.0, plan.list)) (due_at opening at.0 at.1)

-- the pairs (place of a trigger, number of a list due there), by place and then by list
unfoldable pub due : Opening → List Event → List (ℕ × ℕ)
due opening h = flat_map (pairs_at opening) (with_past [] h)
