-- What contracts see of blocks that wait.
use Rattle.std.specs.Prelude.{ℕ, List}

-- the blocks that wait, the oldest first, and how many find room in all
pub record QueueState : Type 0 where
  pub all : List (List ℕ)
  pub room : ℕ
