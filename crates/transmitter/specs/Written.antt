-- What a transmitter took, and what it wrote.
use Rattle.std.specs.Prelude.{ℕ, ◌≡◌, false, true, List, [], ◌∷◌, ◌++◌, length, map, slice_index}
use Rattle.std.specs.Prelude.{Option, Some, None}
use Rattle.xcp_base.specs.Packets.{ArePackets}
use Rattle.xcp_base.specs.Samples.{SampleParts}
use Rattle.xcp_base.specs.declared.item.Item.{Item}
use Rattle.xcp_base.specs.declared.item.Item.TheVariants.{Sample}
use Rattle.channel_ring.specs.Ends.{RingName}
use Rattle.channel_ring.specs.declared.ends.TakeEnd.{Ghosts as TakeGhosts}
use Rattle.frame_writer.specs.Frame.{text}
use Rattle.frame_writer.specs.Shown.{BreaksOff}
use Rattle.frame_writer.specs.Writing.{AfterText, WriterState, state_of}
use Rattle.frame_writer.specs.declared.out.Out.{Ghosts as OutGhosts}
use Rattle.frame_writer.specs.declared.writer.FrameWriter.{FrameWriter}
use Rattle.transmitter.specs.Items.{count_of, packets_of, samples}
use Rattle.transmitter.specs.Merge.{IsMerge, items_taken}
use Rattle.transmitter.specs.declared.transmitter.Transmitter.{Transmitter}

-- a transmitter: what its frame writer shows; of each ring its name, what was received from it and
-- what is known to be there; the sample in hand; of each DAQ list, how many samples were written
-- whole; how many items were taken; and the ring at which pumps that fill a buffer go on
pub record TransmitterState : Type 0 where
  pub writer : WriterState
  pub rings : List RingName
  pub received : List (List Item)
  pub known : List (List Item)
  pub hand : Option SampleParts
  pub written : List ℕ
  pub taken : ℕ
  pub next : ℕ

abbrev pub transmission :
    {O T E : Type 0} → OutGhosts O → TakeGhosts T E → Transmitter O T → TransmitterState
transmission O T t = record {
  writer = state_of O t.writer;
  rings = map T.ring t.ends.items;
  received = map T.received t.ends.items;
  known = map T.known t.ends.items;
  hand = t.hand;
  written = t.written;
  taken = t.taken;
  next = t.next;
}

-- the frame writer that a transmitter has
abbrev pub writer_of : {O T : Type 0} → Transmitter O T → FrameWriter O
writer_of t = t.writer

-- the ring at which pumps that fill a buffer go on
abbrev pub next_of : {O T : Type 0} → Transmitter O T → ℕ
next_of t = t.next

-- the sample in hand, where there is one
abbrev pub in_hand : Option SampleParts → List SampleParts
in_hand None = []
in_hand (Some s) = s ∷ []

-- the frame writer was open and failed within what is written of these packets; it is closed from
-- now on
pub record BreaksWithin (a b : WriterState) (qs : List (List ℕ)) : Type 0 where
  pub out : BreaksOff a.out b.out (text a.counter qs)
  pub was_open : a.closed ≡ false
  pub closed : b.closed ≡ true

-- the frame writer sent the packets of the samples that were written whole; where a sample is in
-- hand, it then failed within that one's packets
abbrev pub HasWritten :
    WriterState → WriterState → List SampleParts → Option SampleParts → Type 0
HasWritten a b whole None = AfterText a b (packets_of whole)
HasWritten a b whole (Some s) =
    (between : WriterState) × AfterText a between (packets_of whole)
    × BreaksWithin between b s.packets

-- a sample in hand is the last item that was taken
abbrev pub IsLast : Option SampleParts → List (ℕ × Item) → Type 0
IsLast None ps = Unit {0}
IsLast (Some s) ps = (c : ℕ) × (before : List (ℕ × Item)) × (ps ≡ before ++ (c, Sample s) ∷ [])

-- a transmitter that began with the frame writer `start`, which was open, has since taken these
-- items
pub record HasTaken (start : WriterState) (t : TransmitterState) (ps : List (ℕ × Item))
    : Type 0 where
  pub was_open : start.closed ≡ false
  pub merge : IsMerge t.received ps
  pub taken : t.taken ≡ length ps
  pub last : IsLast t.hand ps
  -- the samples that were written whole: fixed by `samples`
  pub whole : List SampleParts
  pub samples : whole ++ in_hand t.hand ≡ samples (items_taken ps)
  pub legal : ArePackets (packets_of whole)
  pub writes : HasWritten start t.writer whole t.hand
  pub written : (l : ℕ) → slice_index t.written l ≡ count_of l whole
