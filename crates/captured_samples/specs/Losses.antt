-- What a jump of a master's counter leaves.
use Rattle.std.specs.Prelude.{◌≡◌, ℕ, ◌∷◌, true, false, List, None}
use Rattle.captured_session.specs.Lists.{list_at}
use Rattle.captured_samples.specs.Frames.{Came, is_copy, jumps, last_of, of_master, read_of}
use Rattle.captured_samples.specs.Standing.{Start, set_up_of}

-- behind a frame of a master whose counter jumps no list is known
abbrev pub JumpForgets : Type 0
JumpForgets =
    (start : Start) (h : List Came) (n : ℕ) (p : List ℕ) (list : ℕ)
    → is_copy (last_of (read_of h).commands) n p ≡ false
    → jumps (last_of (read_of h).commands) n p ≡ true
    → list_at (set_up_of start (of_master n p ∷ h)) list ≡ None
