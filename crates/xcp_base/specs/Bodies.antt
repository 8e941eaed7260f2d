-- Bodies: packets one behind another, each behind a byte that has its length.
use Rattle.std.specs.Prelude.{◌≡◌, ℕ, zero, suc, ◌≤◌, List, [], ◌∷◌, ◌++◌, length, take, drop}
use Rattle.xcp_base.specs.declared.limits.TheConstants.{MAX_ODTS}
use Rattle.xcp_base.specs.Packets.{ArePackets}

-- the body of some packets
unfoldable pub body_of : List (List ℕ) → List ℕ
body_of [] = []
body_of (q ∷ qs) = length q ∷ q ++ body_of qs

-- the first n packets of a body
unfoldable pub packets_of_body : ℕ → List ℕ → List (List ℕ)
packets_of_body zero bytes = []
packets_of_body (suc n) [] = []
packets_of_body (suc n) (len ∷ rest) = take len rest ∷ packets_of_body n (drop len rest)

-- these packets, of which there are so many, have this body
pub record IsBodyOf (number : ℕ) (bytes : List ℕ) (packets : List (List ℕ)) : Type 0 where
  pub body : bytes ≡ body_of packets
  pub count : length packets ≡ number
  pub few : number ≤ MAX_ODTS
  pub each : ArePackets packets
