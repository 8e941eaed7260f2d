-- What a reader shows, and when it stands after all bytes that it took and the packets that it
-- gave.
use Rattle.std.specs.Prelude.{◌≡◌, ℕ, ◌+◌, ◌<◌, ◌≤◌, Bool, true, false, All, List, [], ◌∷◌, ◌++◌}
use Rattle.std.specs.Prelude.{length, take, Option, Some, None}
use Rattle.xcp_base.specs.declared.limits.TheConstants.{MAX_CTO}
use Rattle.frame_writer.specs.declared.reach.Reach.TheVariants.{Part, Bad}
use Rattle.frame_writer.specs.declared.fed.Fed.{Fed}
use Rattle.arrayvec.specs.ArrayVec.{ArrayVec}
use Rattle.frame_writer.specs.Reach.{reach}
use Rattle.frame_writer.specs.Pieces.{SplitsInto}

-- the bytes that are held, whether a frame was bad, and the most bytes of a master's packet
pub record ReaderState : Type 0 where
  pub held : List ℕ
  pub closed : Bool
  pub max_cto : ℕ

-- the bytes split into frames with these packets, and then the bytes held: less than a frame, or
-- if the reader is closed the begin of a bad one
pub record ReaderStandsAfter (r : ReaderState) (bytes : List ℕ) (packets : List (List ℕ))
    : Type 0 where
  pub split : SplitsInto r.max_cto bytes packets r.held
  pub part : r.closed ≡ false → reach r.max_cto r.held ≡ Part
  pub bad : r.closed ≡ true → reach r.max_cto r.held ≡ Bad

-- MAX_CTO stays; and if the old reader stands after some bytes and packets, the new one stands
-- after those and then these
pub record Leads (old new : ReaderState) (more : List ℕ) (given : List (List ℕ)) : Type 0 where
  pub max_cto : new.max_cto ≡ old.max_cto
  pub after :
      (bytes : List ℕ) (packets : List (List ℕ)) → ReaderStandsAfter old bytes packets
      → ReaderStandsAfter new (bytes ++ more) (packets ++ given)

-- the packet that was given, if there was one
abbrev pub packet_list : Option (ArrayVec ℕ) → List (List ℕ)
packet_list (Some packet) = packet.items ∷ []
packet_list None = []

abbrev pub given_of : Fed → List (List ℕ)
given_of fed = packet_list fed.packet

-- some first bytes led to the begin of a bad frame, or it was there before; no packet was given
pub record IsBadAfter (old new : ReaderState) (bytes : List ℕ) : Type 0 where
  -- how many of the bytes were read: fixed by `leads`, since a reader that is closed takes no more
  pub taken : ℕ
  pub within : taken ≤ length bytes
  pub leads : Leads old new (take taken bytes) []
  pub closed : new.closed ≡ true

-- what every reader keeps to
pub record IsReader (r : ReaderState) : Type 0 where
  pub fit : All (λ b. b < 256) r.held
  pub range : r.max_cto ≤ MAX_CTO
  pub limit : length r.held < 4 + r.max_cto
  pub part : r.closed ≡ false → reach r.max_cto r.held ≡ Part
