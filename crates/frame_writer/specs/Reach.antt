-- How far bytes reach into the frame that they begin (ASAM MCD-1 XCP, transport layer for
-- Ethernet, header): LEN, CTR and as many bytes as LEN says.
use Rattle.std.specs.Prelude.{ℕ, ◌+◌, ◌*◌, ◌==◌, ◌||◌, nat_lt, Bool, if◌then◌else◌, List, ◌∷◌}
use Rattle.std.specs.Prelude.{length}
use Rattle.frame_writer.specs.declared.reach.Reach.{Reach}
use Rattle.frame_writer.specs.declared.reach.Reach.TheVariants.{Part, Whole, Bad}

-- LEN is 0 or over MAX_CTO
abbrev pub is_bad_len : ℕ → ℕ → Bool
is_bad_len max_cto len = len == 0 || nat_lt max_cto len

-- bytes whose LEN is this: CTR and the packet are still to come whole, or they are there
abbrev pub reach_by : ℕ → ℕ → ℕ → Reach
reach_by max_cto len behind =
    if is_bad_len max_cto len then Bad else if nat_lt behind (2 + len) then Part else Whole

-- how far some bytes reach, of a master whose packets have at most MAX_CTO bytes
abbrev pub reach : ℕ → List ℕ → Reach
reach max_cto (low ∷ high ∷ rest) = reach_by max_cto (low + 256 * high) (length rest)
reach max_cto _ = Part
