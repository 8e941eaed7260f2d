-- A file tells one thing.
use Rattle.std.specs.Prelude.{◌≡◌, ℕ, List}
use Rattle.mdf_blocks.specs.Told.{TellsFile, ToldFile}

-- whatever two readers find that follow the links of a file, it is the same
abbrev pub TellsOneThing : Type 0
TellsOneThing =
    (bytes : List ℕ) (a b : ToldFile) → TellsFile bytes a → TellsFile bytes b → a ≡ b
