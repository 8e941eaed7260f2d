use Rattle.std.proofs.Common.{length}
use Rattle.std.specs.Prelude.{None, ◌==◌, ◌||◌, nat_lt}
use Rattle.segments.specs.declared.fault.SegmentFault.TheVariants as fault
use Rattle.segments.specs.declared.limits.TheConstants.{MAX_SEGMENTS}
use Rattle.segments.specs.Faults.{fault_from}
use Rattle.segments.proofs.OrderLemmas.{at_most_one, no_number}
use Rattle.segments.proofs.laws.bytes_lie_in_one_segment_at_most.Goals as goal

-- one of two would stand behind the other
pub returns : goal.returns
returns c channels segments none =
    at_most_one channels 0 None segments (no_number (length segments == 0 || nat_lt MAX_SEGMENTS (length segments)) fault.Number (fault_from channels 0 None segments) none)
