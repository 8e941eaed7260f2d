-- A step at a ring: what was there, what was taken, and what was written.
use Rattle.std.specs.Prelude.{◌≡◌, ℕ, ◌+◌, ◌<◌, ◌≤◌, false, true, List, [], ◌∷◌, ◌++◌, length}
use mathlib.Core.List.{IsPrefix}
use Rattle.xcp_base.specs.Samples.{MarkParts, SampleParts}
use Rattle.xcp_base.specs.declared.item.Item.{Item}
use Rattle.xcp_base.specs.declared.item.Item.TheVariants.{Marker, Sample}
use Rattle.channel_ring.specs.Making.{ArePackets}
use Rattle.frame_writer.specs.Frame.{unnumbered}
use Rattle.frame_ring.specs.Ends.{TakeState}
use Rattle.frame_ring.specs.Heads.{head_of, item_head}
use Rattle.frame_ring.specs.Records.{cost}
use Rattle.frame_ring.specs.declared.head.Head.TheVariants as head
use Rattle.frame_page.specs.Pages.{PageState}
use Rattle.slave_outbox.specs.declared.origin.Origin.{Origin}
use Rattle.slave_outbox.specs.declared.origin.Origin.TheVariants as origin
use Rattle.slave_outbox.specs.Deeds.{Deed, Took, passes}
use Rattle.slave_outbox.specs.Intakes.{GoesOn, IntakeState, OnlyLooked, StandsAfter}
use Rattle.slave_outbox.specs.declared.step.Step.{Step}
use Rattle.slave_outbox.specs.declared.step.Step.TheVariants.{Full, Marked, Nothing, Skipped}
use Rattle.slave_outbox.specs.declared.step.Step.TheVariants.{Wrote}

-- the packets of a sample wait behind all others, as from there; their frames have so many bytes,
-- which find room
pub record LaysOut (a b : PageState Origin) (s : SampleParts) (origin : Origin) (len room : ℕ)
    : Type 0 where
  pub packets : ArePackets s.packets
  pub long : len ≡ length (unnumbered s.packets)
  pub within : len ≤ room
  pub page :
      b ≡ record a {
        waits = a.waits ++ record {
          origin = origin;
          packets = s.packets;
          blocks = cost (Sample s);
        } ∷ [];
        used = a.used + cost (Sample s);
      }

-- whatever the intake stands after, a sample of list l passes, or doesn't
abbrev pub Passes : IntakeState → ℕ → Type 0
Passes a l = (deeds : List Deed) → StandsAfter a deeds → passes deeds l ≡ true

abbrev pub IsHeldBack : IntakeState → ℕ → Type 0
IsHeldBack a l = (deeds : List Deed) → StandsAfter a deeds → passes deeds l ≡ false

-- a ring holds this sample next, and its head tells that the frames have so many bytes
pub record HoldsNext (t : TakeState) (s : SampleParts) (len : ℕ) : Type 0 where
  pub first : IsPrefix (Sample s ∷ []) t.known
  pub told : head_of t.front ≡ head.Sample s.list (length s.packets) len

-- this item was taken: what was received gains it; it was the first that was known, if any was, and
-- is what its head told; and none of the others that were known is forgotten
pub record Takes (a b : IntakeState) (x : Item) : Type 0 where
  pub goes_on : GoesOn a b (Took x)
  pub gains : b.end.received ≡ a.end.received ++ x ∷ []
  pub first_known : IsPrefix a.end.known (x ∷ b.end.known)
  pub told : 0 < length a.end.known → head_of a.end.front ≡ item_head x
  pub ring : b.end.ring ≡ a.end.ring

-- what a step did with the next item: it is let go, or laid out in a page, where so many bytes find
-- room, as a sample that event channel c has in measurement m
abbrev pub StepMeans :
    IntakeState → IntakeState → PageState Origin → PageState Origin → ℕ → ℕ → ℕ → Step → Type 0
StepMeans a b p q m c room Nothing = OnlyLooked a b × (b.end.known ≡ []) × (q ≡ p)
StepMeans a b p q m c room Full =
    (s : SampleParts) × (len : ℕ) × OnlyLooked a b × HoldsNext b.end s len × Passes a s.list
    × (room < len) × (q ≡ p)
StepMeans a b p q m c room (Marked l) =
    (x : MarkParts) × Takes a b (Marker x) × (l ≡ x.list) × (q ≡ p)
StepMeans a b p q m c room (Skipped l) =
    (s : SampleParts) × Takes a b (Sample s) × (l ≡ s.list) × IsHeldBack a s.list × (q ≡ p)
StepMeans a b p q m c room (Wrote l len) =
    (s : SampleParts) × Takes a b (Sample s) × (l ≡ s.list) × Passes a s.list
    × LaysOut p q s (origin.Sample m c l) len room
