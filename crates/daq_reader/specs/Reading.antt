-- How far the samples of one DAQ list have come.
use Rattle.std.specs.Prelude.{ℕ, ◌==◌, Bool, if◌then◌else◌, List, [], length}
use Rattle.copy_plan.specs.Config.{ListPlan}
use Rattle.daq_reader.specs.Recorded.{Recorded}

-- a list, and the packets of the sample that was last begun
pub record Reading : Type 0 where
  pub plan : ListPlan
  pub packets : List (List ℕ)

-- each ODT has its packet
abbrev pub is_whole : Reading → Bool
is_whole a = length a.packets == length a.plan.odts

-- the packets that wait for others: none if the sample is whole
abbrev pub under_way : Reading → List (List ℕ)
under_way a = if is_whole a then [] else a.packets

-- a list, and a sample of it
pub record Shown : Type 0 where
  pub plan : ListPlan
  pub sample : Recorded
