-- How many places a bin has.
use Rattle.std.specs.Prelude.{ℕ, ◌+◌, ◌/◌, ◌<◌, ◌≤◌}

-- the bins of the least and the greatest place are fewer than 1024 apart
abbrev pub IsNear : ℕ → ℕ → ℕ → Type 0
IsNear width first last = last / width < first / width + 1024

-- a bin has one place; or with half as many they would be 1024 apart, or more
abbrev pub IsFine : ℕ → ℕ → ℕ → Type 0
IsFine width first last = 1 < width → first / (width / 2) + 1024 ≤ last / (width / 2)
