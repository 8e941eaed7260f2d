-- What a slave does with the items of its rings.
use Rattle.std.specs.Prelude.{◌≡◌, ◌⊎◌, ℕ, ◌+◌, ◌*◌, ◌<◌, ◌≤◌, Bool, true, false, max}
use Rattle.std.specs.Prelude.{List, [], ◌∷◌, ◌++◌, length, slice_get, Option, Some, None}
use mathlib.Core.List.{IsPrefix}
use Rattle.xcp_base.specs.Samples.{SampleParts}
use Rattle.xcp_base.specs.declared.item.Item.{Item}
use Rattle.xcp_base.specs.declared.item.Item.TheVariants.{Sample}
use Rattle.std.specs.List.{list_all}
use Rattle.xcp_base.specs.declared.limits.TheConstants.{MAX_CHANNELS}
use Rattle.slave_outbox.specs.Steps.{HoldsNext, Passes}
use Rattle.slave_outbox.specs.Taking.{HasNoRoom}
use Rattle.slave_channels.specs.Channels.{ChannelState, ShareState}
use Rattle.session.specs.declared.profile.Profile.{Profile}
use Rattle.slave.specs.Hearing.{GoesBy, is_spent}
use Rattle.slave.specs.Log.{Act, CameBack, Discarded, Heard, HungUp, Opened, Refused, Sent, Took}
use Rattle.slave.specs.Standing.{SlaveState}
use Rattle.slave.specs.declared.limits.TheConstants.{PER_ACT}

abbrev pub is_take : Act → Bool
is_take (Heard x) = false
is_take (Refused packet code) = false
is_take (Opened at) = false
is_take (Took m c x) = true
is_take (CameBack m c past) = false
is_take (Sent n) = false
is_take HungUp = false
is_take Discarded = false

-- the most items that one call takes: at an event channel it looks 1,024 times at the ring of each
-- of two measurements, and a look takes one item at most
abbrev pub most_taken : ℕ
most_taken = 2 * 1024 * MAX_CHANNELS

-- the bytes of the longest frame: LEN and CTR, and a packet of the greater of MAX_CTO and MAX_DTO
-- bytes
abbrev pub least_peek : Profile → ℕ
least_peek d = 4 + max d.max_cto d.max_dto

-- the newest measurement's part at an event channel, if there is one
abbrev pub newest_part : Option ChannelState → Option ShareState
newest_part None = None
newest_part (Some ch) = ch.newer

abbrev pub newest_at : SlaveState → ℕ → Option ShareState
newest_at s c = newest_part (slice_get s.channels c)

-- and of the measurement before it
abbrev pub older_part : Option ChannelState → Option ShareState
older_part None = None
older_part (Some ch) = ch.older

abbrev pub older_at : SlaveState → ℕ → Option ShareState
older_at s c = older_part (slice_get s.channels c)

-- going round over the event channels from `begin` on, one comes by c before `end`
abbrev pub ComesBefore : ℕ → ℕ → ℕ → Type 0
ComesBefore begin end c =
    ((begin ≤ c) × (c < end)) ⊎ ((end < begin) × ((begin ≤ c) ⊎ (c < end)))

-- items were taken, if there were some, and no more than so many; each counts as 126. What the
-- last peek showed is shown still; and of a slave that is spent nothing changes, but for where
-- the next look begins
pub record TakesItems (most : ℕ) (a b : SlaveState) : Type 0 where
  pub acts : List Act
  pub few : length acts ≤ most
  pub counted : b.acts ≡ a.acts + PER_ACT * length acts
  pub are : list_all is_take acts ≡ true
  pub session : b.session ≡ a.session
  pub as_many : length b.channels ≡ length a.channels
  pub shown : b.outbox.shown ≡ a.outbox.shown
  pub spent : is_spent a ≡ true → b ≡ record a { next = b.next }
  pub goes : GoesBy a b acts

-- the next sample of the newest measurement at event channel c is known, its list runs, and its
-- frames, of which the head of its record tells the length, find no room on the page
pub record IsHeldUp (s : SlaveState) (c : ℕ) : Type 0 where
  pub state : ChannelState
  pub part : ShareState
  pub sample : SampleParts
  pub len : ℕ
  pub state_is : slice_get s.channels c ≡ Some state
  pub part_is : state.newer ≡ Some part
  pub next : HoldsNext part.intake.end sample len
  pub passes : Passes part.intake sample.list
  pub no_room : HasNoRoom s.outbox len

-- no item of the newest measurement is known at event channel c
abbrev pub IsEmptyAt : SlaveState → ℕ → Type 0
IsEmptyAt s c =
    (state : ChannelState) (part : ShareState)
    → slice_get s.channels c ≡ Some state → state.newer ≡ Some part → part.intake.end.known ≡ []

-- what was received of a part's ring, and what is known to be in it; of no part, nothing
abbrev pub received_of : Option ShareState → List Item
received_of None = []
received_of (Some p) = p.intake.end.received

abbrev pub known_of : Option ShareState → List Item
known_of None = []
known_of (Some p) = p.intake.end.known

-- a part's ring was looked at n times, and each look took the next item, if one was known: these
-- were taken, the oldest first, and none that was known is forgotten; they are n at most, and
-- fewer only if all are among them that were known before
pub record LooksTimes (n : ℕ) (a b : Option ShareState) : Type 0 where
  pub taken : List Item
  pub gains : received_of b ≡ received_of a ++ taken
  pub in_order : IsPrefix (known_of a) (taken ++ known_of b)
  pub most : length taken ≤ n
  pub fewer : length taken < n → length (known_of a) ≤ length taken

-- what a part's ring holds next is known, a sample whose list runs
abbrev pub HasRunning : Option ShareState → Type 0
HasRunning None = ⊥
HasRunning (Some p) =
    (x : SampleParts) × IsPrefix (Sample x ∷ []) p.intake.end.known × Passes p.intake x.list

-- so at event channel c, in the newest measurement
abbrev pub LooksAt : ℕ → SlaveState → SlaveState → ℕ → Type 0
LooksAt n a b c = LooksTimes n (newest_at a c) (newest_at b c)

-- the rings of the newest measurement were looked at by turns, from the one on where the look was
-- to begin: all of them so many times, and once more those before the one where the next look
-- begins; or where it ended, if the slave is spent
pub record TakesFairly (a b : SlaveState) : Type 0 where
  pub rounds : ℕ
  pub end : ℕ
  pub once_more : (c : ℕ) → ComesBefore a.next end c → LooksAt (rounds + 1) a b c
  pub others : (c : ℕ) → ¬ ComesBefore a.next end c → LooksAt rounds a b c
  pub next : (b.next ≡ end) ⊎ (is_spent b ≡ true)

-- the rings of the newest measurement were looked through: an event channel is held up, and the
-- next look begins there; or it begins at the first, and no item is known at any of them, or the
-- slave is spent, or it took 1,023 items at least, and looked at each ring 1,023 times or 1,024
abbrev pub LooksThrough : SlaveState → SlaveState → Type 0
LooksThrough a b =
    IsHeldUp b b.next
    ⊎ ((b.next ≡ 0)
    × (((c : ℕ) → IsEmptyAt b c)
    ⊎ ((is_spent b ≡ true)
    ⊎ ((a.acts + PER_ACT * 1023 ≤ b.acts)
    × ((c : ℕ) → LooksAt 1023 a b c ⊎ LooksAt 1024 a b c)))))

-- the ring of the measurement before the newest was looked at 1,024 times at event channel c: so
-- all that was known is taken, or so many items. Or it holds a sample next whose list runs, which
-- is never so, since that measurement has ended
abbrev pub LetsGoAt : SlaveState → SlaveState → ℕ → Type 0
LetsGoAt a b c = LooksTimes 1024 (older_at a c) (older_at b c) ⊎ HasRunning (older_at b c)

-- so at each event channel, or the slave is spent
abbrev pub LetsGo : SlaveState → SlaveState → Type 0
LetsGo a b = (is_spent b ≡ true) ⊎ ((c : ℕ) → LetsGoAt a b c)
