-- A sample is taken off a ring, into a page.
use Rattle.std.specs.Prelude.{◌≡◌, ℕ, ◌+◌, ◌<◌, [], ◌∷◌, ◌++◌, length}
use mathlib.Core.List.{IsPrefix}
use Rattle.xcp_base.specs.Samples.{SampleParts}
use Rattle.xcp_base.specs.declared.item.Item.TheVariants.{Sample}
use Rattle.frame_ring.specs.Ends.{TakeState}
use Rattle.frame_ring.specs.Heads.{head_of, item_head}
use Rattle.frame_ring.specs.Records.{IsItem, cost}
use Rattle.frame_ring.specs.declared.head.Head.TheVariants as head
use Rattle.frame_page.specs.Pages.{PageState}

-- the first item that is known is a sample, whose head tells so many packets, and so many bytes of
-- frames
pub record IsSampleFront (t : TakeState) (packets len : ℕ) : Type 0 where
  pub some : 0 < length t.known
  -- fixed by `told`
  pub list : ℕ
  pub told : head_of t.front ≡ head.Sample list packets len

-- the first item that was known was taken, a sample as its head told, and none of the others is
-- forgotten; its packets wait behind all others, and take up as many blocks as its record
pub record TakesSample {O : Type 0} (t u : TakeState) (a b : PageState O) (origin : O)
    : Type 0 where
  -- fixed by `received`
  pub sample : SampleParts
  pub is_item : IsItem (Sample sample)
  pub told : head_of t.front ≡ item_head (Sample sample)
  pub received : u.received ≡ t.received ++ Sample sample ∷ []
  pub first : IsPrefix t.known (Sample sample ∷ u.known)
  pub ring : u.ring ≡ t.ring
  pub page :
      b ≡ record a {
        waits = a.waits ++ record {
          origin = origin;
          packets = sample.packets;
          blocks = cost (Sample sample);
        } ∷ [];
        used = a.used + cost (Sample sample);
      }
