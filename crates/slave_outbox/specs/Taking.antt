-- An item of an event channel's ring is taken: a sample that passes is laid out.
use Rattle.std.specs.Prelude.{◌≡◌, ℕ, ◌+◌, ◌<◌, ◌≤◌, [], length}
use Rattle.xcp_base.specs.Samples.{MarkParts, SampleParts}
use Rattle.xcp_base.specs.declared.item.Item.TheVariants.{Marker, Sample}
use Rattle.channel_ring.specs.Making.{ArePackets}
use Rattle.slave_outbox.specs.Intakes.{IntakeState, OnlyLooked}
use Rattle.slave_outbox.specs.Steps.{HoldsNext, IsHeldBack, Passes, Takes}
use Rattle.slave_outbox.specs.declared.step.Step.{Step}
use Rattle.slave_outbox.specs.declared.step.Step.TheVariants.{Full, Marked, Nothing, Skipped}
use Rattle.slave_outbox.specs.declared.step.Step.TheVariants.{Wrote}
use Rattle.frame_writer.specs.Frame.{unnumbered}
use Rattle.slave_outbox.specs.Outboxes.{LaysOut, OutboxState, bytes_in, together}
use Rattle.slave_outbox.specs.declared.origin.Origin.TheVariants as origin

-- frames of so many bytes would end behind the page
abbrev pub HasNoRoom : OutboxState → ℕ → Type 0
HasNoRoom o len = o.page < bytes_in o.waits + len

-- the frames of a sample end within it
abbrev pub FindsRoom : OutboxState → SampleParts → Type 0
FindsRoom o s = bytes_in o.waits + length (unnumbered s.packets) ≤ o.page

-- what became of the next item: it is let go, or laid out as a sample that event channel c has in
-- measurement m
abbrev pub TakesItem :
    IntakeState → IntakeState → OutboxState → OutboxState → ℕ → ℕ → Step → Type 0
TakesItem a b o p m c Nothing = OnlyLooked a b × (b.end.known ≡ []) × (p ≡ o)
TakesItem a b o p m c Full =
    (s : SampleParts) × (len : ℕ) × OnlyLooked a b × HoldsNext b.end s len × Passes a s.list
    × HasNoRoom o len × (p ≡ o)
TakesItem a b o p m c (Marked l) =
    (x : MarkParts) × Takes a b (Marker x) × (l ≡ x.list) × (p ≡ o)
TakesItem a b o p m c (Skipped l) =
    (s : SampleParts) × Takes a b (Sample s) × (l ≡ s.list) × IsHeldBack a s.list × (p ≡ o)
TakesItem a b o p m c (Wrote l len) =
    (s : SampleParts) × Takes a b (Sample s) × (l ≡ s.list) × Passes a s.list
    × ArePackets s.packets × FindsRoom o s
    × LaysOut o p (together (origin.Sample m c l) s.packets)
