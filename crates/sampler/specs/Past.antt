-- What a sampler has behind it.
use Rattle.std.specs.Prelude.{Bool, List, [], ◌∷◌, ◌++◌}
use Rattle.copy_plan.specs.Config.{ListPlan}
use Rattle.sampler.specs.History.{Event, Opening, due_at}

-- what an event channel was opened with, what its sampler then accepted, and its decisions: for
-- each list that was due, in order, whether its sample was accepted
pub record Past : Type 0 where
  pub opening : Opening
  pub history : List Event
  pub decisions : List Bool

-- at the opening: nothing
abbrev pub first_past : Opening → Past
first_past opening = record { opening = opening; history = []; decisions = [] }

-- with one event more, and with what was decided of the lists that it found due
abbrev pub one_more : Past → Event → List Bool → Past
one_more past event ds = record {
  opening = past.opening;
  history = past.history ++ event ∷ [];
  decisions = past.decisions ++ ds;
}

-- the plans that an event finds due, their numbers rising
abbrev pub due_next : Past → Event → List ListPlan
due_next past event = due_at past.opening past.history event
