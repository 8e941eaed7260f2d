use Rattle.std.proofs.Common.{◌≡◌, ℕ, ◌<◌, Some}
use Rattle.capture_recording.specs.Slaves.{address_at}
use Rattle.capture_recording.proofs.slaves.place_in.Given as goal

-- it is none of those before
abbrev pub invariant-slaves : goal.invariant-slaves
invariant-slaves g l = (k : ℕ) → k < l.i → address_at l.slaves k ≡ Some l.address → ⊥
