-- A pump's turn at one ring, and a look at the rings one by one.
use Rattle.std.specs.Prelude.{ℕ, ◌<◌, ◌≤◌, ◌≡◌, ◌⊎◌, List, [], ◌∷◌, length, map}
use Rattle.std.specs.Prelude.{Option, None, Some}
use mathlib.Core.List.{IsPrefix}
use Rattle.xcp_base.specs.Packets.{ArePackets}
use Rattle.xcp_base.specs.Samples.{SampleParts, MarkParts}
use Rattle.xcp_base.specs.declared.item.Item.{Item}
use Rattle.xcp_base.specs.declared.item.Item.TheVariants.{Sample, Marker}
use Rattle.xcp_base.specs.declared.limits.TheConstants.{MAX_LISTS, MAX_ODTS}
use Rattle.channel_ring.specs.declared.ends.RingEnd.{Ghosts as EndGhosts}
use Rattle.channel_ring.specs.declared.ends.TakeEnd.{Ghosts as TakeGhosts}
use Rattle.frame_writer.specs.Shown.{OutState}
use Rattle.sampler.specs.State.{SamplerEndState}
use Rattle.transmitter.specs.Looks.{EndsStay}
use Rattle.transmitter.specs.Merge.{Takes, of_ring}
use Rattle.transmitter.specs.Pumps.{Leads}
use Rattle.transmitter.specs.Written.{TransmitterState}
use Rattle.transmitter.specs.declared.turn.Turn.{Turn}
use Rattle.transmitter.specs.declared.turn.Turn.TheVariants.{Nothing, Stays, Stopped, Wrote}

-- the sample that is first in ring c was taken into the hand
abbrev pub TakesInHand : ℕ → TransmitterState → TransmitterState → Type 0
TakesInHand c a b = (s : SampleParts) × (b.hand ≡ Some s) × Leads a ((c, Sample s) ∷ []) b

-- the sample that is first in ring c stays there, since there is no room for its packets
pub record LeavesSample (c : ℕ) (long : List (List ℕ) → Type 0) (a b : TransmitterState)
    : Type 0 where
  -- fixed by `first`
  pub sample : SampleParts
  pub first : IsPrefix (Sample sample ∷ []) (of_ring b.known c)
  pub packets : ArePackets sample.packets
  pub few : length sample.packets ≤ MAX_ODTS
  pub hand : b.hand ≡ None
  pub leads : Leads a [] b
  pub writer : b.writer ≡ a.writer
  pub too_long : long sample.packets

-- one turn at ring c: nothing was there; or a sample, which was written as n packets; or the stop
-- marker of list l; or a sample within which the writer failed, if it may, or which finds no room
abbrev pub TurnMeans :
    Type 0 → (List (List ℕ) → Type 0) → ℕ → TransmitterState → TransmitterState → Turn → Type 0
TurnMeans may_fail long c a b Nothing =
    (b.hand ≡ None) × Leads a [] b × (of_ring a.known c ≡ [])
TurnMeans may_fail long c a b (Wrote n) =
    (s : SampleParts) × (b.hand ≡ None) × Leads a ((c, Sample s) ∷ []) b × (n ≡ length s.packets)
    × (n ≤ MAX_ODTS)
TurnMeans may_fail long c a b (Stopped l) =
    (m : MarkParts) × (b.hand ≡ None) × Leads a ((c, Marker m) ∷ []) b × (l ≡ m.list)
    × (l < MAX_LISTS)
TurnMeans may_fail long c a b Stays =
    (may_fail × TakesInHand c a b) ⊎ LeavesSample c long a b

-- what a turn wrote was laid out; else the buffer is as it was, and so is the writer, unless a
-- sample stays
abbrev pub TurnLays :
    (ℕ → Type 0) → OutState → OutState → List ℕ → List ℕ → ℕ → ℕ → Turn → Type 0
TurnLays laid a b old new at end (Wrote n) = laid n
TurnLays laid a b old new at end Stays = (new ≡ old) × (end ≡ at)
TurnLays laid a b old new at end _ = (b ≡ a) × (new ≡ old) × (end ≡ at)

-- the first item known of ring c was taken, whatever it is
abbrev pub TakesFirst :
    ℕ → List (List Item) → List (List Item) → List (List Item) → List (List Item) → Type 0
TakesFirst c received new_received known new_known =
    (x : Item) × IsPrefix (x ∷ []) (of_ring known c)
    × Takes received new_received known new_known ((c, x) ∷ [])

-- the first item known of ring c, a sample, was taken and is held
pub record HoldsFirst (c : ℕ) (received new_received known new_known : List (List Item))
    (held : Option SampleParts) : Type 0 where
  -- fixed by `hand`
  pub sample : SampleParts
  pub hand : held ≡ Some sample
  pub first : IsPrefix (Sample sample ∷ []) (of_ring known c)
  pub takes : Takes received new_received known new_known ((c, Sample sample) ∷ [])

-- the first of these items is a sample
abbrev pub BeginsWithSample : List Item → Type 0
BeginsWithSample xs = (s : SampleParts) × IsPrefix (Sample s ∷ []) xs

-- the take ends are still those of their rings, and have received what they had; and the finished
-- ends stay
pub record AllStay {T F E : Type 0} (take : TakeGhosts T F) (ring : EndGhosts E) (old new : List T)
    (old_ends new_ends : List (SamplerEndState E))
    : Type 0 where
  pub rings : map take.ring new ≡ map take.ring old
  pub received : map take.received new ≡ map take.received old
  pub ends : EndsStay ring old_ends new_ends
