use Rattle.std.proofs.Common.{◌≡◌, ◌≤◌, length, drop}
use Rattle.segments.specs.Faults.{fault_from}
use Rattle.segments.specs.declared.limits.TheConstants.{MAX_SEGMENTS}
use Rattle.std.specs.Prelude.{None}
use Rattle.segments.proofs.fault.segments_fault.Given as goal

-- the segments so far are within their limits
abbrev pub invariant-loop-segment : goal.invariant-loop-segment
invariant-loop-segment l =
    (fault_from l.channels 0 None l.segments ≡ fault_from l.channels l.i l.before (drop l.segment-index l.segments))
    × (l.i ≡ l.segment-index) × (length l.segments ≤ MAX_SEGMENTS)
