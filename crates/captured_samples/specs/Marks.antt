-- The number of a sample's mark.
use Rattle.std.specs.Prelude.{ℕ, ◌+◌, if◌then◌else◌}
use Rattle.captured_samples.specs.declared.mark.Mark.{Mark}

-- 1 is the overload indication, 2 a gap, 3 both
abbrev pub number_of : Mark → ℕ
number_of m = (if m.overload then 1 else 0) + (if m.gap then 2 else 0)
