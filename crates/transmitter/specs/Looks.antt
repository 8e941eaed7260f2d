-- What a look at the rings leaves: nothing changes but what is known to be in them.
use Rattle.std.specs.Prelude.{ℕ, ◌<◌, ◌≡◌, ◌≢◌, List, [], ◌++◌, length, map}
use Rattle.xcp_base.specs.declared.item.Item.{Item}
use Rattle.channel_ring.specs.declared.ends.RingEnd.{Ghosts as EndGhosts}
use Rattle.sampler.specs.State.{SamplerEndState, joined}
use Rattle.transmitter.specs.Merge.{of_ring}
use Rattle.transmitter.specs.Written.{TransmitterState}

-- nothing changed but what is known
abbrev pub Looked : TransmitterState → TransmitterState → Type 0
Looked a b = b ≡ record a { known = b.known }

-- nothing changed but what is known of ring c
pub record LookedAt (c : ℕ) (a b : TransmitterState) : Type 0 where
  pub same : Looked a b
  pub others : (e : ℕ) → e ≢ c → of_ring b.known e ≡ of_ring a.known e

-- what was received from each ring and what is known to be there is all that was sent to it
abbrev pub KnowsAll : List (List Item) → TransmitterState → Type 0
KnowsAll sent b = (c : ℕ) → of_ring b.received c ++ of_ring b.known c ≡ of_ring sent c

-- of some ring an item is known to be there
abbrev pub KnowsSome : TransmitterState → Type 0
KnowsSome b = (c : ℕ) × (0 < length (of_ring b.known c))

-- of no ring an item is known to be there
abbrev pub KnowsNone : TransmitterState → Type 0
KnowsNone b = (c : ℕ) → of_ring b.known c ≡ []

-- the finished ends are those of the transmitter's rings, in their order
abbrev pub AreOfRings :
    {E : Type 0} → EndGhosts E → TransmitterState → List (SamplerEndState E) → Type 0
AreOfRings ring t ends = t.rings ≡ map (λ (e : SamplerEndState _). ring.ring e.end) ends

-- the finished ends are still those of their rings, and say the same of what was sent and counted
pub record EndsStay {E : Type 0} (ring : EndGhosts E) (old new : List (SamplerEndState E))
    : Type 0 where
  pub rings :
      map (λ (e : SamplerEndState E). ring.ring e.end) new
      ≡ map (λ (e : SamplerEndState E). ring.ring e.end) old
  pub ends : map (joined ring) new ≡ map (joined ring) old
