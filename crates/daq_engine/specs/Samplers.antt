-- The samplers of an engine, in rising event channel, beside the transmitter of their rings.
use Rattle.std.specs.Prelude.{◌≡◌, ◌≢◌, ℕ, ◌+◌, ◌≤◌, List, length, map, slice_get, Some}
use Rattle.xcp_base.specs.declared.item.Item.{Item}
use Rattle.segments.specs.Image.{image_len}
use Rattle.channel_ring.specs.Room.{units}
use Rattle.channel_ring.specs.declared.ends.SendEnd.{Ghosts as SendGhosts}
use Rattle.channel_ring.specs.declared.ends.RingEnd.{Ghosts as EndGhosts}
use Rattle.sampler.specs.State.{SamplerEndState, SamplerState, joined, sent_by}
use Rattle.transmitter.specs.Merge.{of_ring}
use Rattle.transmitter.specs.Written.{TransmitterState}
use Rattle.sampler.specs.Past.{Past}
use Rattle.daq_engine.specs.Configuration.{upto}
use Rattle.daq_engine.specs.Standings.{EndsStandInOrder, StandInOrder}

-- what each of the samplers sent
abbrev pub sent_of_each : {S E : Type 0} → SendGhosts S E → List (SamplerState S) → List (List Item)
sent_of_each send samplers = map (λ (s : SamplerState _). send.sent s.end) samplers

-- the samplers are those of channels 0, 1, .., and ring c of the transmitter is that of sampler c
pub record AreBeside {S E : Type 0} (send : SendGhosts S E) (samplers : List (SamplerState S))
    (t : TransmitterState)
    : Type 0 where
  pub channels : map (λ (s : SamplerState S). s.channel) samplers ≡ upto 0 (length samplers)
  pub rings : t.rings ≡ map (λ (s : SamplerState S). send.ring s.end) samplers

-- they are still the samplers of their channels and rings, for images of the same length and with
-- the same capacities
pub record StayThose {S E : Type 0} (send : SendGhosts S E) (before after : List (SamplerState S))
    : Type 0 where
  pub channels :
      map (λ (s : SamplerState S). s.channel) after
      ≡ map (λ (s : SamplerState S). s.channel) before
  pub rings :
      map (λ (s : SamplerState S). send.ring s.end) after
      ≡ map (λ (s : SamplerState S). send.ring s.end) before
  pub image_lens :
      map (λ (s : SamplerState S). image_len s.segments) after
      ≡ map (λ (s : SamplerState S). image_len s.segments) before
  pub capacities :
      map (λ (s : SamplerState S). send.capacity s.end) after
      ≡ map (λ (s : SamplerState S). send.capacity s.end) before

-- and only that of channel c may have changed
pub record OnlyAt {S E : Type 0} (send : SendGhosts S E) (c : ℕ)
    (before after : List (SamplerState S))
    : Type 0 where
  pub those : StayThose send before after
  pub others : (e : ℕ) → e ≢ c → slice_get after e ≡ slice_get before e

-- of the sampler of channel c only what it knows to be free changed, and that is no less
pub record FreesAt {S E : Type 0} (send : SendGhosts S E) (c : ℕ)
    (before after : List (SamplerState S))
    : Type 0 where
  -- fixed by `was` and `is`
  pub old : SamplerState S
  pub new : SamplerState S
  pub was : slice_get before c ≡ Some old
  pub is : slice_get after c ≡ Some new
  pub rest : new ≡ record old { end = new.end }
  pub sent : send.sent new.end ≡ send.sent old.end
  pub grows : send.free old.end ≤ send.free new.end

-- they only looked at their rings: they are still those, sent nothing and stand as they stood
pub record AllOnlyLooked {S E : Type 0} (send : SendGhosts S E) (ring : EndGhosts E)
    (before after : List (SamplerState S))
    : Type 0 where
  pub those : StayThose send before after
  pub sent : sent_of_each send after ≡ sent_of_each send before
  pub stand :
      (past : ℕ → Past) → StandInOrder send ring before past → StandInOrder send ring after past

-- the sampler of ring c knows each unit to be free that no item known to be there takes up
abbrev pub IsRoomyAt :
    {S E : Type 0} → SendGhosts S E → EndGhosts E → List (SamplerState S) → TransmitterState → ℕ
    → Type 0
IsRoomyAt send ring samplers t c =
    (s : SamplerState _) → slice_get samplers c ≡ Some s
    → send.capacity s.end ≤ send.free s.end + units ring.cost (of_ring t.known c)

-- and so does that of each ring
abbrev pub AreRoomy :
    {S E : Type 0} → SendGhosts S E → EndGhosts E → List (SamplerState S) → TransmitterState
    → Type 0
AreRoomy send ring samplers t = (c : ℕ) → IsRoomyAt send ring samplers t c

-- the samplers were finished, and these are what is left of them, in their order: of the same
-- channels, rings and capacities; they tell what was sent, and stand after what the samplers did
pub record AreFinished {S E : Type 0} (send : SendGhosts S E) (ring : EndGhosts E)
    (samplers : List (SamplerState S)) (ends : List (SamplerEndState E))
    : Type 0 where
  pub stand :
      (past : ℕ → Past) → StandInOrder send ring samplers past
      → EndsStandInOrder (map (joined ring) ends) past
  pub channels :
      map (λ (e : SamplerEndState E). e.channel) ends
      ≡ map (λ (s : SamplerState S). s.channel) samplers
  pub rings :
      map (λ (e : SamplerEndState E). ring.ring e.end) ends
      ≡ map (λ (s : SamplerState S). send.ring s.end) samplers
  pub capacities :
      map (λ (e : SamplerEndState E). e.capacity) ends
      ≡ map (λ (s : SamplerState S). send.capacity s.end) samplers
  pub sent : sent_by (map (joined ring) ends) ≡ sent_of_each send samplers

-- of the end of one of them `finish` may give nothing
abbrev pub SomeIsLost : {S E : Type 0} → SendGhosts S E → List (SamplerState S) → Type 0
SomeIsLost send samplers =
    (c : ℕ) × (s : SamplerState _) × (slice_get samplers c ≡ Some s) × send.is_lost s.end
