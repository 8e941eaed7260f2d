-- Frames that wait, told by their packets.
use Rattle.std.specs.Prelude.{◌≡◌, ℕ, ◌+◌, ◌-◌, ◌<◌, List, [], ◌∷◌, ◌++◌, drop, length, nat_le}
use Rattle.std.specs.Prelude.{if◌then◌else◌}

-- packets that were laid out together and wait, where they are from, and the blocks that they take
-- up until the last of them is sent
pub record Laid (O : Type 0) : Type 0 where
  pub origin : O
  pub packets : List (List ℕ)
  pub blocks : ℕ

-- all packets of these, in order
abbrev pub packets_in : {O : Type 0} → List (Laid O) → List (List ℕ)
packets_in [] = []
packets_in (x ∷ xs) = x.packets ++ packets_in xs

-- the blocks that all of these take up
abbrev pub blocks_of : {O : Type 0} → List (Laid O) → ℕ
blocks_of [] = 0
blocks_of (x ∷ xs) = x.blocks + blocks_of xs

-- what is left behind the first n packets: of the one within which they end, the packets behind
abbrev pub behind : {O : Type 0} → ℕ → List (Laid O) → List (Laid O)
behind n [] = []
behind n (x ∷ xs) =
    if nat_le (length x.packets) n
    then behind (n - length x.packets) xs
    else record x { packets = drop n x.packets } ∷ xs

-- so many of the first ones' packets, and not all; none where there are none
abbrev pub IsWithinFirst : {O : Type 0} → ℕ → List (Laid O) → Type 0
IsWithinFirst n [] = n ≡ 0
IsWithinFirst n (x ∷ xs) = n < length x.packets
