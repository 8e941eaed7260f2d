-- The counts of what went wrong with a writer.
use Rattle.std.specs.Prelude.{◌≡◌, ℕ, ◌+◌, ◌%◌, ◌^◌, ◌&&◌, ◌⊎◌, ◌==◌, nat_lt, Bool, if◌then◌else◌}
use Rattle.std.specs.Prelude.{List, length}

-- a count that rose by one; it wraps at 2^64
abbrev pub raised : ℕ → ℕ
raised n = (n + 1) % 2 ^ 64

-- a count after something that is counted, or isn't
abbrev pub counted : Bool → ℕ → ℕ
counted happened n = if happened then raised n else n

-- none of some bytes were taken
abbrev pub is_stall : List ℕ → ℕ → Bool
is_stall bytes taken = nat_lt 0 (length bytes) && (taken == 0)

-- of failures and stalls, before and after, one rose by one and the other stayed
abbrev pub OneRose : ℕ → ℕ → ℕ → ℕ → Type 0
OneRose failures stalls new_failures new_stalls =
    ((new_failures ≡ raised failures) × (new_stalls ≡ stalls))
    ⊎ ((new_failures ≡ failures) × (new_stalls ≡ raised stalls))
