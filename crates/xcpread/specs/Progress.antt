-- What standard error is told of progress.
use Rattle.std.specs.Prelude.{ℕ, ◌/◌, nat_lt, Bool}

-- more whole steps of 10 MB stand before one byte than before another
abbrev pub is_next_step : ℕ → ℕ → Bool
is_next_step told byte = nat_lt (told / 10000000) (byte / 10000000)
