-- The frames that bytes split into, and what is left behind the last of them.
use Rattle.std.specs.Prelude.{◌≡◌, ◌⊎◌, ℕ, ◌<◌, ◌≤◌, All, List, ◌++◌, length, map}
use Rattle.frame_writer.specs.Split.{joined_frames}
use Rattle.xcp_base.specs.declared.limits.TheConstants.{MAX_CTO}
use Rattle.frame_writer.specs.declared.reach.Reach.TheVariants.{Part, Bad}
use Rattle.frame_writer.specs.Reach.{reach}

-- a counter, and a packet that a master may send, of at most so many bytes
pub record IsMasterFrame (max_cto : ℕ) (f : ℕ × List ℕ) : Type 0 where
  pub counter : f.0 < 65536
  pub some : 0 < length f.1
  pub fits : length f.1 ≤ max_cto

-- the bytes are frames with these packets, one behind another, and then what is left
pub record SplitsInto
    (max_cto : ℕ) (bytes : List ℕ) (packets : List (List ℕ)) (left : List ℕ)
    : Type 0 where
  -- their counters and packets: fixed by `carry` and `whole`
  pub frames : List (ℕ × List ℕ)
  pub legal : All (IsMasterFrame max_cto) frames
  pub carry : packets ≡ map (λ f. f.1) frames
  pub whole : bytes ≡ joined_frames frames ++ left

-- what is left is less than a frame, or the begin of a bad one
abbrev pub EndsSplit : ℕ → List ℕ → Type 0
EndsSplit max_cto left = (reach max_cto left ≡ Part) ⊎ (reach max_cto left ≡ Bad)

-- bytes split in one way, whatever MAX_CTO is
abbrev pub OneReading : Type 0
OneReading =
    (max_cto : ℕ) → max_cto ≤ MAX_CTO
    → (bytes : List ℕ) (packets packets' : List (List ℕ)) (left left' : List ℕ)
    → SplitsInto max_cto bytes packets left → EndsSplit max_cto left
    → SplitsInto max_cto bytes packets' left' → EndsSplit max_cto left'
    → (packets ≡ packets') × (left ≡ left')
