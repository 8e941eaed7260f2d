use Rattle.std.proofs.Common.{◌≡◌, ◌≤◌, ◌*◌}
use Rattle.copy_plan.specs.Inner.Lens.{lens_upto}
use Rattle.copy_plan.proofs.plan.frames_len_of.Given as goal

-- the frames of the ODTs so far
abbrev pub invariant-loop-odt : goal.invariant-loop-odt
invariant-loop-odt l = (l.len ≡ lens_upto l.conf l.odt) × (l.len ≤ 70000 * l.odt)
