use Rattle.std.proofs.Common.{◌≡◌, ◌+◌, ◌-◌, ◌*◌, ◌≤◌, drop}
use Rattle.byte_ring.specs.Held.{least_body}
use Rattle.byte_ring.proofs.held.body_end.Given as goal

-- the end so far, and the packets that are left
abbrev pub invariant-loop : goal.invariant-loop
invariant-loop l =
    (l.end + least_body (l.count - l.counter) (drop l.end l.bytes) ≡ 12 + least_body l.count (drop 12 l.bytes))
    × (l.end ≤ 12 + 256 * l.counter)
