-- Packets that fit the ODTs of a list, one by one.
use Rattle.std.specs.Prelude.{◌≡◌, ℕ, ◌+◌, ◌<◌, ◌≤◌, All, Bool, List, [], ◌++◌, length}
use Rattle.std.specs.Prelude.{slice_index_or}
use Rattle.xcp_base.specs.Packets.{stamp_len}
use Rattle.copy_plan.specs.Config.{ListPlan, IsPlan, elements_len}
use Rattle.copy_plan.specs.Pids.{field}
use Rattle.daq_reader.specs.Reading.{Reading}

-- the packet is one of ODT k: its identification field, and as many bytes as the ODT has
pub record Fits (plan : ListPlan) (k : ℕ) (q : List ℕ) : Type 0 where
  -- fixed by `is`
  pub overload : Bool
  pub rest : List ℕ
  pub is : q ≡ field plan k overload ++ rest
  pub len : length rest ≡ stamp_len plan.form.stamp plan.stamped k + elements_len plan k

-- the packets are of ODTs 0, 1, .. of a list
pub record FitInOrder (plan : ListPlan) (qs : List (List ℕ)) : Type 0 where
  pub few : length qs ≤ length plan.odts
  pub each : (k : ℕ) → k < length qs → Fits plan k (slice_index_or qs k [])

-- the packet is of bytes
abbrev pub HasBytes : List ℕ → Type 0
HasBytes q = All (λ b. b < 256) q

-- so is each
abbrev pub HaveBytes : List (List ℕ) → Type 0
HaveBytes qs = All HasBytes qs

pub record IsReading (a : Reading) : Type 0 where
  pub plan : IsPlan a.plan
  pub packets : FitInOrder a.plan a.packets
  pub each : HaveBytes a.packets

-- each ODT of the list has its packet
pub record IsWhole (list : ListPlan) (qs : List (List ℕ)) : Type 0 where
  pub plan : IsPlan list
  pub fit : FitInOrder list qs
  pub each : HaveBytes qs
  pub all : length qs ≡ length list.odts
