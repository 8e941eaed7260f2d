-- What an out has, if that is known.
use Rattle.std.specs.Prelude.{ℕ, List, ◌++◌, Option, drop, length}
use Rattle.std.specs.Option.{option_map}

-- the first bytes are others now
abbrev pub write_over : List ℕ → Option (List ℕ) → Option (List ℕ)
write_over front known = option_map (λ bytes. front ++ drop (length front) bytes) known
