-- A packet is sent behind its length LEN and a counter CTR, two bytes each, least significant first
-- (ASAM MCD-1 XCP, transport layer for Ethernet, header). CTR starts at 0 and rises by one a
-- packet; it wraps after 65535.
use Rattle.std.specs.Prelude.{ℕ, ◌+◌, ◌/◌, ◌%◌, ◌<◌, ◌≤◌, List, [], ◌∷◌, ◌++◌, length}

-- a number in two bytes, the least significant first
abbrev pub two_bytes : ℕ → List ℕ
two_bytes x = x % 256 ∷ x / 256 % 256 ∷ []

-- LEN and CTR of the packet q, sent as number n
abbrev pub header : ℕ → List ℕ → List ℕ
header n q = two_bytes (length q) ++ two_bytes (n % 65536)

-- the packet q, sent as number n
abbrev pub frame : ℕ → List ℕ → List ℕ
frame n q = header n q ++ q

-- the packets, sent as numbers n, n + 1, ..
abbrev pub text : ℕ → List (List ℕ) → List ℕ
text n [] = []
text n (q ∷ qs) = frame n q ++ text (n + 1) qs

-- the packets, not numbered yet: each has CTR 0
abbrev pub unnumbered : List (List ℕ) → List ℕ
unnumbered [] = []
unnumbered (q ∷ qs) = frame 0 q ++ unnumbered qs

-- a counter, and a packet whose length LEN can say
pub record IsFrame (f : ℕ × List ℕ) : Type 0 where
  pub counter : f.0 < 65536
  pub some : 0 < length f.1
  pub fits : length f.1 ≤ 65535
