-- What no public clause cites: how long frames are, how many are whole in the first bytes, and how
-- many bytes a writer took before it broke off.
use Rattle.std.specs.Prelude.{◌≡◌, ℕ, ◌+◌, ◌<◌, List, [], ◌∷◌, ◌++◌, length, take}
use Rattle.frame_writer.specs.Counts.{OneRose}
use Rattle.frame_writer.specs.Shown.{OutState, Rose}

-- how many bytes the frames of packets have: of each its length, and 4 for LEN and CTR
abbrev pub text_len : List (List ℕ) → ℕ
text_len [] = 0
text_len (q ∷ qs) = 4 + length q + text_len qs

-- the first `bytes` bytes of the frames of qs are `count` whole frames and `into` bytes of the next
-- one, not all of it
pub record ReachesInto (qs : List (List ℕ)) (bytes count : ℕ) : Type 0 where
  -- fixed by `packets` and `as_many`
  pub whole : List (List ℕ)
  pub torn : List ℕ
  pub unsent : List (List ℕ)
  pub packets : qs ≡ whole ++ torn ∷ unsent
  pub as_many : count ≡ length whole
  -- fixed by `are`
  pub into : ℕ
  pub within : into < 4 + length torn
  pub are : bytes ≡ text_len whole + into

-- `BreaksOff`, with the number: it took the first `taken` bytes, not all, and then failed or
-- stalled, once
pub record BreaksOffAfter (taken : ℕ) (a b : OutState) (bytes : List ℕ) : Type 0 where
  pub proper : taken < length bytes
  pub contents : b.contents ≡ a.contents ++ take taken bytes
  pub rose : Rose a b
  pub once : OneRose a.failures a.stalls b.failures b.stalls
