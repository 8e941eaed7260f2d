-- The version: which arguments ask for it, and what is printed.
use Rattle.std.specs.Prelude.{◌≡◌, ℕ, Bool, false, List, [], ◌∷◌, ◌++◌, ◌||◌, codes, bytes_eq}
use Rattle.std.specs.Prelude.{Option, if◌then◌else◌}
use Rattle.std.specs.Io.KnownBytes.{Appends}
use Rattle.program_input.specs.declared.versions.TheConstants.{VERSION}

-- `--version` is among the arguments in front of `--`, behind which none is an option
abbrev pub asks_version : List (List ℕ) → Bool
asks_version [] = false
asks_version (word ∷ rest) = if bytes_eq word (codes "--") then false
    else (bytes_eq word (codes "--version") || asks_version rest)

-- the name of a program, a space, the version and a line feed
abbrev pub version_line : List ℕ → List ℕ
version_line name = name ++ codes " " ++ VERSION.now ++ 10 ∷ []

-- if the status is 0, standard output, which had these bytes before and has those now, has this
-- line behind them
abbrev pub PrintsVersion : List ℕ → Option (List ℕ) → Option (List ℕ) → ℕ → Type 0
PrintsVersion name before after status = status ≡ 0 → Appends before after (version_line name)
