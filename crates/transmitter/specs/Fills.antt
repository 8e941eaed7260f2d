-- Pumps, one after another, that write into one buffer as far as it has room.
use Rattle.std.specs.Prelude.{ℕ, ◌+◌, ◌<◌, ◌≤◌, ◌≡◌, ◌⊎◌, List, [], ◌∷◌, ◌++◌, length, None}
use Rattle.std.specs.Prelude.{drop, take}
use Rattle.std.specs.List.{AllByRecursion}
use mathlib.Core.List.{IsPrefix}
use Rattle.xcp_base.specs.declared.limits.TheConstants.{MAX_TAKEN}
use Rattle.xcp_base.specs.Samples.{SampleParts}
use Rattle.xcp_base.specs.declared.item.Item.{Item}
use Rattle.xcp_base.specs.declared.item.Item.TheVariants.{Sample}
use Rattle.frame_writer.specs.Frame.{text}
use Rattle.frame_writer.specs.Shown.{OutState}
use Rattle.transmitter.specs.Items.{packets_of, samples}
use Rattle.transmitter.specs.Merge.{AreRising, items_taken, of_ring, taken_from}
use Rattle.transmitter.specs.Pumps.{CanPump, IsSetOfStops, Leads}
use Rattle.transmitter.specs.Written.{TransmitterState}
use Rattle.transmitter.specs.declared.pumped_all.PumpedAll.{PumpedAll}

-- the turns of a pump at the rings from `low` on that are below `high`: it took these items, in
-- rising number of the ring, and from each of these rings of which an item was known, one
pub record TakesTurns (low high : ℕ) (a b : TransmitterState) (qs : List (ℕ × Item))
    : Type 0 where
  pub rising : AreRising low qs
  pub below : AllByRecursion (λ (p : ℕ × Item). p.0 < high) qs
  pub leads : Leads a qs b
  pub known :
      (e : ℕ) → e < high → low ≤ e → 0 < length (of_ring a.known e)
      → 0 < length (taken_from e qs)

-- pumps of n rings, one after another, with what each took: the first has its turns at the rings
-- from `from` on, each further one at all rings
abbrev pub ArePumps :
    ℕ → ℕ → TransmitterState → List (List (ℕ × Item)) → TransmitterState → Type 0
ArePumps n from a [] b = b ≡ a
ArePumps n from a (qs ∷ pumps) b =
    (m : TransmitterState) × TakesTurns from n a m qs × ArePumps n 0 m pumps b

-- the first ring of the pump behind these
abbrev pub ring_behind : ℕ → List (List (ℕ × Item)) → ℕ
ring_behind from [] = from
ring_behind from (qs ∷ pumps) = 0

-- what pumps took, in order
abbrev pub all_taken : List (List (ℕ × Item)) → List (ℕ × Item)
all_taken [] = []
all_taken (qs ∷ pumps) = qs ++ all_taken pumps

-- of ring c the next item is a sample whose frames, laid out from `end` on, don't fit into a buffer
-- of so many bytes
pub record FindsNoRoom (c : ℕ) (t : TransmitterState) (room end : ℕ) : Type 0 where
  -- fixed by `first`
  pub sample : SampleParts
  pub first : IsPrefix (Sample sample ∷ []) (of_ring t.known c)
  pub too_long : room < end + length (text t.writer.counter sample.packets)

-- what was written between these two stands in the front of a buffer, in so many bytes and nothing
-- else; behind it the buffer is as it was
pub record IsInFront (a b : OutState) (old new : List ℕ) (n : ℕ) : Type 0 where
  pub within : n ≤ length old
  pub written : a.contents ++ take n new ≡ b.contents
  pub behind : drop n new ≡ drop n old

-- how many items and frames these are, and which stop markers are among them
pub record Tells (p : PumpedAll) (qs : List (ℕ × Item)) : Type 0 where
  pub taken : p.taken ≡ length qs
  pub frames : p.frames ≡ length (packets_of (samples (items_taken qs)))
  pub stopped : IsSetOfStops p.stopped (items_taken qs)

-- pumps until a sample's frames don't fit: the first goes on at ring `from`, the last stops before
-- ring `next`, at which the next call goes on. If all fit, the last is a whole pump that found
-- nothing, or one without a turn because too many items were taken; the next call begins at ring 0
pub record Fills (from next room end : ℕ) (a b : TransmitterState) (p : PumpedAll)
    : Type 0 where
  pub could : CanPump a
  pub hand : b.hand ≡ None
  -- what the pumps before the last took, and what the last took: fixed by `leads` and by the order
  -- of the frames; where all that is left is known, each pump takes one item of each ring that has
  -- one
  pub pumps : List (List (ℕ × Item))
  pub last : List (ℕ × Item)
  -- fixed by `before`, but for what was known then
  pub between : TransmitterState
  pub before : ArePumps (length a.rings) from a pumps between
  -- the ring before which the last stopped: fixed by `why`
  pub stop : ℕ
  pub turns : TakesTurns (ring_behind from pumps) stop between b last
  pub why :
      ((stop ≡ next) × (next < length a.rings) × FindsNoRoom next b room end)
      ⊎ ((stop ≡ length a.rings) × (next ≡ 0) × (ring_behind from pumps ≡ 0) × (last ≡ []))
      ⊎ ((stop ≡ 0) × (next ≡ 0) × (last ≡ []) × (MAX_TAKEN ≤ b.taken))
  pub leads : Leads a (all_taken pumps ++ last) b
  pub tells : Tells p (all_taken pumps ++ last)
