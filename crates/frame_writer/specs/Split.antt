-- Frames, read off the bytes that were written.
use Rattle.std.specs.Prelude.{◌≡◌, ℕ, ◌+◌, ◌%◌, ◌<◌, ◌≤◌, All, List, [], ◌∷◌, ◌++◌, length}
use Rattle.frame_writer.specs.Frame.{IsFrame, frame, text}

-- the frames of counters and packets, one behind another
abbrev pub joined_frames : List (ℕ × List ℕ) → List ℕ
joined_frames [] = []
joined_frames (f ∷ fs) = frame f.0 f.1 ++ joined_frames fs

-- the bytes are these frames, one behind another
pub record IsSplit (bytes : List ℕ) (fs : List (ℕ × List ℕ)) : Type 0 where
  pub legal : All IsFrame fs
  pub whole : joined_frames fs ≡ bytes

-- the packets with the counters n, n + 1, .. modulo 65536
abbrev pub numbered : ℕ → List (List ℕ) → List (ℕ × List ℕ)
numbered n [] = []
numbered n (q ∷ qs) = (n % 65536, q) ∷ numbered (n + 1) qs

-- a packet that a frame can carry
abbrev pub Fits : List ℕ → Type 0
Fits q = (0 < length q) × (length q ≤ 65535)

-- bytes are the frames of at most one list of counters and packets
abbrev pub SplitIsUnique : Type 0
SplitIsUnique =
    (bytes : List ℕ) (fs gs : List (ℕ × List ℕ)) → IsSplit bytes fs → IsSplit bytes gs → fs ≡ gs

-- what is written of packets splits into these packets, with counters that rise by one modulo 65536
abbrev pub SplitOfText : Type 0
SplitOfText = (n : ℕ) (qs : List (List ℕ)) → All Fits qs → IsSplit (text n qs) (numbered n qs)
