-- What the samples of one trigger have in common.
use Rattle.std.specs.Prelude.{ℕ, List}
use Rattle.std.proofs.Props.{props}
use Rattle.xcp_base.specs.declared.memory_view.MemoryView.{MemoryView}
use Rattle.xcp_base.specs.declared.memory_view.MemoryView.TheVariants.{Image, Parts}
use Rattle.copy_plan.specs.Memory.{FitsMemory}
use Rattle.segments.specs.declared.segment.Segment.{Segment}

-- the event channel, the number of triggers that it accepted before, the segments of memory, its
-- image and the timestamp
pub record MomentParts : Type 0 where
  pub channel : ℕ
  pub trigger : ℕ
  pub segments : List Segment
  pub image : List ℕ
  pub stamp : ℕ

-- that memory fits segments is a fact
pub FitsMemory-prop :
    (c : ℕ) (segments : List Segment) (memory : MemoryView) → IsProp (FitsMemory c segments memory)
FitsMemory-prop c segments (Image image) = hlevel props
FitsMemory-prop c segments (Parts memory) = hlevel props
