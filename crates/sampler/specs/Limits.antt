-- The plans whose samples a ring takes.
use Rattle.std.specs.Prelude.{ℕ, ◌<◌, ◌≤◌, All, List, length}
use Rattle.xcp_base.specs.Packets.{packet_len}
use Rattle.channel_ring.specs.Making.{SampleLimit}
use Rattle.copy_plan.specs.Config.{ListPlan, elements_len}
use Rattle.copy_plan.specs.Frames.{frames_len}

-- the samples of a plan keep to a limit
pub record KeepsTo (limit : SampleLimit) (plan : ListPlan) : Type 0 where
  pub few : length plan.odts ≤ limit.count
  pub short :
      (k : ℕ) → k < length plan.odts
      → packet_len plan.form plan.stamped k (elements_len plan k) ≤ limit.packet
  pub frames : frames_len plan ≤ limit.frames

-- so of each plan
abbrev pub AllKeepTo : SampleLimit → List ListPlan → Type 0
AllKeepTo limit plans = All (KeepsTo limit) plans
