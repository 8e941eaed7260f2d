-- Which packets are of which command, whatever the byte order of numbers (ASAM MCD-1 XCP, protocol
-- layer): a packet begins with the code of its command, and has all bytes of it.
use Rattle.std.specs.Prelude.{ℕ, ◌==◌, ◌&&◌, Bool, false, nat_le, List, length, slice_index}
use Rattle.std.specs.Prelude.{Option, Some, None}

-- a packet begins with this code, and has so many bytes at least
abbrev pub is_of : ℕ → ℕ → List ℕ → Bool
is_of code n packet = nat_le n (length packet) && (slice_index packet 0 == code)

-- the reply is positive, and has so many bytes at least
abbrev pub has_positive : ℕ → Option (List ℕ) → Bool
has_positive n None = false
has_positive n (Some reply) = is_of 0xFF n reply
