-- What a pump does.
use Rattle.std.specs.Prelude.{ℕ, ◌+◌, ◌<◌, ◌≤◌, ◌≡◌, Bool, true, false, nat_eq}
use Rattle.std.specs.Prelude.{List, [], ◌∷◌, ◌++◌, length, None, Some, Result, Ok, Err}
use Rattle.std.specs.List.{list_any}
use Rattle.xcp_base.specs.declared.limits.TheConstants.{MAX_TAKEN}
use Rattle.xcp_base.specs.Samples.{SampleParts, MarkParts}
use Rattle.xcp_base.specs.declared.item.Item.{Item}
use Rattle.xcp_base.specs.declared.item.Item.TheVariants.{Sample, Marker}
use Rattle.frame_writer.specs.Writing.{WriterState}
use Rattle.xcp_base.specs.Lists.{has_list}
use Rattle.transmitter.specs.Items.{packets_of, samples}
use Rattle.transmitter.specs.Merge.{AreRising, Takes, items_taken, of_ring, taken_from}
use Rattle.transmitter.specs.Written.{HasTaken, TransmitterState}
use Rattle.transmitter.specs.declared.pumped.Pumped.{Pumped}
use Rattle.transmitter.specs.declared.faults.PumpFault.{PumpFault}
use Rattle.transmitter.specs.declared.faults.PumpFault.TheVariants.{Closed, Failed, Spent}

-- transmitter b is a after it took these items: whatever a stood after, b stands after that and
-- these
pub record Leads (a : TransmitterState) (qs : List (ℕ × Item)) (b : TransmitterState) : Type 0 where
  pub rings : b.rings ≡ a.rings
  pub takes : Takes a.received b.received a.known b.known qs
  pub taken : b.taken ≡ a.taken + length qs
  pub stands :
      (start : WriterState) (ps : List (ℕ × Item)) → HasTaken start a ps
      → HasTaken start b (ps ++ qs)

-- whatever transmitter a stood after, b stands after that and perhaps some items more
abbrev pub TakesMore : TransmitterState → TransmitterState → Type 0
TakesMore a b =
    (start : WriterState) (ps : List (ℕ × Item)) → HasTaken start a ps
    → (qs : List (ℕ × Item)) × HasTaken start b (ps ++ qs)

-- the item is a stop marker of list l
abbrev pub is_marker_of : ℕ → Item → Bool
is_marker_of l (Sample s) = false
is_marker_of l (Marker m) = nat_eq m.list l

-- a set has the lists whose stop markers are among these items, and no others
abbrev pub IsSetOfStops : ℕ → List Item → Type 0
IsSetOfStops set xs = (l : ℕ) → has_list set l ≡ list_any (is_marker_of l) xs

-- of each list in a set, the stop marker is the last item that was received from its ring
abbrev pub StopsAreLast : ℕ → TransmitterState → Type 0
StopsAreLast set b =
    (l : ℕ) → has_list set l ≡ true
    → (c : ℕ) × (m : MarkParts) × (before : List Item) × (m.list ≡ l)
    × (of_ring b.received c ≡ before ++ Marker m ∷ [])

-- from each ring below c of which an item was known, one was taken
abbrev pub TakesKnownBelow : ℕ → List (List Item) → List (ℕ × Item) → Type 0
TakesKnownBelow c known qs =
    (e : ℕ) → e < c → 0 < length (of_ring known e) → 0 < length (taken_from e qs)

-- the writer isn't closed, and few enough items were taken
abbrev pub CanPump : TransmitterState → Type 0
CanPump a = (a.writer.closed ≡ false) × (a.taken < MAX_TAKEN)

-- a pump that took these items and wrote the samples among them; one that fills a buffer then
-- begins at ring 0
pub record Pumps (a b : TransmitterState) (qs : List (ℕ × Item)) (p : Pumped) : Type 0 where
  pub could : CanPump a
  pub hand : b.hand ≡ None
  pub taken : p.taken ≡ length qs
  pub frames : p.frames ≡ length (packets_of (samples (items_taken qs)))
  pub stopped : IsSetOfStops p.stopped (items_taken qs)
  pub last : StopsAreLast p.stopped b
  pub known : (e : ℕ) → 0 < length (of_ring a.known e) → 0 < length (taken_from e qs)
  pub next : b.next ≡ 0

-- a pump at which the writer failed, within the sample that was taken last: it is in hand. Of the
-- next ring nothing is said, since no pump takes anything any more
pub record PumpFails (a b : TransmitterState) (qs : List (ℕ × Item)) : Type 0 where
  pub could : CanPump a
  -- fixed by `hand` and `last`
  pub sample : SampleParts
  pub ring : ℕ
  pub before : List (ℕ × Item)
  pub hand : b.hand ≡ Some sample
  pub last : qs ≡ before ++ (ring, Sample sample) ∷ []
  pub known : TakesKnownBelow ring a.known before

-- what a pump that took these items answers
abbrev pub PumpAnswers :
    TransmitterState → TransmitterState → List (ℕ × Item) → Result Pumped PumpFault → Type 0
PumpAnswers a b qs (Ok p) = Pumps a b qs p
PumpAnswers a b qs (Err Failed) = PumpFails a b qs
PumpAnswers a b qs (Err Closed) = (a.writer.closed ≡ true) × (b ≡ a) × (qs ≡ [])
PumpAnswers a b qs (Err Spent) =
    (a.writer.closed ≡ false) × (MAX_TAKEN ≤ a.taken) × (b ≡ a) × (qs ≡ [])

-- a pump: at most one item of each ring, in rising number of the ring
pub record IsPump (a b : TransmitterState) (answer : Result Pumped PumpFault) : Type 0 where
  -- fixed by `leads`, which says what was received, and `rising`
  pub taken : List (ℕ × Item)
  pub rising : AreRising 0 taken
  pub leads : Leads a taken b
  pub answers : PumpAnswers a b taken answer
