-- What stays of a sampler.
use Rattle.std.specs.Prelude.{◌≡◌, ◌≤◌, ◌<◌}
use Rattle.xcp_base.specs.declared.item.Item.{Item}
use Rattle.channel_ring.specs.declared.ends.SendEnd.{Ghosts as SendGhosts}
use Rattle.channel_ring.specs.declared.ends.RingEnd.{Ghosts as EndGhosts}
use Rattle.sampler.specs.Past.{Past}
use Rattle.sampler.specs.Standing.{ExceedsCapacity, StandsAfter}
use Rattle.sampler.specs.State.{SamplerState}

-- it is still the sampler of its channel and its ring, for memory in the same segments and with the
-- same plans, and holds nothing more back
pub record KeepsSetUp
    {S E : Type 0} (send : SendGhosts S E) (old new : SamplerState S)
    : Type 0 where
  pub channel : new.channel ≡ old.channel
  pub segments : new.segments ≡ old.segments
  pub plans : new.plans ≡ old.plans
  pub capacity : send.capacity new.end ≡ send.capacity old.end
  pub held : send.held new.end ≤ send.held old.end
  pub ring : send.ring new.end ≡ send.ring old.end

-- it only looked at its ring: nothing but its end changed, through which nothing more was sent; no
-- unit known to be free is forgotten; and it stands after what it stood after
pub record OnlyLooked
    {S E : Type 0} (send : SendGhosts S E) (left : EndGhosts E) (old new : SamplerState S)
    : Type 0 where
  pub rest : new ≡ record old { end = new.end }
  pub sent : send.sent new.end ≡ send.sent old.end
  pub free : send.free old.end ≤ send.free new.end
  pub capacity : send.capacity new.end ≡ send.capacity old.end
  pub held : send.held new.end ≤ send.held old.end
  pub ring : send.ring new.end ≡ send.ring old.end
  pub stands : (past : Past) → StandsAfter send left old past → StandsAfter send left new past

-- the end has no room for an item: it costs more than what is known to be free, and, with all that
-- was sent before it, more than the capacity
pub record HasNoRoomFor
    {S E : Type 0} (send : SendGhosts S E) (left : EndGhosts E) (end : S) (item : Item)
    : Type 0 where
  pub over_free : send.free end < left.cost item
  pub over_capacity : ExceedsCapacity (send.capacity end) left.cost (send.sent end) item
