-- How a sampler is joined to its past. A past is what its event channel was opened with, the events
-- that were accepted since, and for each list that was due whether its sample was accepted (Past).
-- A sampler stands after a past if all that it keeps is as this past says. It keeps no past itself:
-- contracts speak of every past that it stands after.
use Rattle.std.specs.Prelude.{◌≡◌, ℕ, ◌+◌, ◌<◌, Bool, false, ◌&&◌, ◌||◌, Some, slice_get}
use Rattle.std.specs.Prelude.{List, [], ◌∷◌, ◌++◌, length, map, take, count_by}
use Rattle.xcp_base.specs.declared.item.Item.{Item}
use Rattle.channel_ring.specs.Room.{units}
use Rattle.channel_ring.specs.declared.ends.SendEnd.{Ghosts as SendGhosts}
use Rattle.channel_ring.specs.declared.ends.RingEnd.{Ghosts as EndGhosts}
use Rattle.copy_plan.specs.Config.{ListPlan}
use Rattle.xcp_base.specs.Lists.{has_list}
use Rattle.sampler.specs.History.{Event, Trigger, is_trigger, due, due_at}
use Rattle.sampler.specs.Past.{Past, due_next, one_more}
use Rattle.sampler.specs.Decisions.{decided, pairs_of, accepted_in}
use Rattle.sampler.specs.Items.{items, items_at, sample}
use Rattle.sampler.specs.Tracks.{track_of, counts_of}
use Rattle.sampler.specs.State.{SamplerState, JoinedEnd}
use Rattle.sampler.specs.Sets.{IsSetOf, are_in}
use Rattle.sampler.specs.declared.taken.Taken.{Taken}

-- the item, together with those sent before, would be over the capacity
abbrev pub ExceedsCapacity : ℕ → (Item → ℕ) → List Item → Item → Type 0
ExceedsCapacity capacity cost before item = capacity < units cost before + cost item

-- a sample is dropped only if it, with all items sent before it, exceeds the capacity:
-- at each trigger of the past, for the k-th plan due there, which is pair j
unfoldable pub DropsOnlyWhenFull : ℕ → (Item → ℕ) → Past → Type 0
DropsOnlyWhenFull capacity cost past =
    (before rest : List Event) (image : List ℕ) (stamp k : ℕ) (plan : ListPlan) →
    past.history ≡ before ++ Trigger image stamp ∷ rest →
    slice_get (due_at past.opening before (Trigger image stamp)) k ≡ Some plan →
    let o = past.opening in
    let d = past.decisions in
    let j = length (due o before) + k in
    slice_get d j ≡ Some false →
    ExceedsCapacity capacity cost
    (items o (before ++ Trigger image stamp ∷ []) (take j d))
    (sample o past.history d j plan image stamp)

-- a sampler stands after a past: its channel and its plans are those of the opening, there is a
-- decision for each list that was due, the items of the past were sent and no others, its tracks
-- and its counts are those of the past, and samples were dropped only when the ring was full
pub record StandsAfter
    {S E : Type 0} (send : SendGhosts S E) (ring : EndGhosts E) (s : SamplerState S) (past : Past)
    : Type 0 where
  pub channel : s.channel ≡ past.opening.channel
  pub plans : s.plans ≡ past.opening.plans
  pub decisions : length past.decisions ≡ length (due past.opening past.history)
  pub sent : send.sent s.end ≡ items past.opening past.history past.decisions
  pub tracks :
      s.tracks ≡ map (track_of past.opening past.history past.decisions) past.opening.plans
  pub triggers : s.triggers ≡ count_by is_trigger past.history
  pub accepted : s.accepted ≡ accepted_in past.decisions
  pub drops : DropsOnlyWhenFull (send.capacity s.end) ring.cost past

-- the same of what is left of a sampler that was finished: it has counts in place of tracks
pub record EndStandsAfter (s : JoinedEnd) (past : Past) : Type 0 where
  pub channel : s.channel ≡ past.opening.channel
  pub plans : s.plans ≡ past.opening.plans
  pub decisions : length past.decisions ≡ length (due past.opening past.history)
  pub sent : s.sent ≡ items past.opening past.history past.decisions
  pub counts :
      let pairs = decided past.opening past.history past.decisions in
      s.counts ≡ map (λ (plan : ListPlan). counts_of (pairs_of plan.list pairs)) past.opening.plans
  pub drops : DropsOnlyWhenFull s.capacity s.cost past

-- an event for which nothing is decided, as a start, leads from one sampler to the other: whatever
-- past the one stands after, the other stands after that past with this event more
abbrev pub GoesOn :
    {S E : Type 0} → SendGhosts S E → EndGhosts E → SamplerState S → SamplerState S → Event → Type 0
GoesOn send ring before after event =
    (past : Past) → StandsAfter send ring before past
    → StandsAfter send ring after (one_more past event [])

-- for each list that an event finds due, whether its sample was accepted
abbrev pub decisions_of : Taken → Past → Event → List Bool
decisions_of taken past event = are_in taken.accepted (due_next past event)

-- the past with a trigger of this image and stamp more, at which just the samples of these lists
-- were accepted
abbrev pub after_trigger : Taken → Past → List ℕ → ℕ → Past
after_trigger taken past image stamp =
    one_more past (Trigger image stamp) (decisions_of taken past (Trigger image stamp))

-- what a trigger that was taken says of itself and of its sampler: the lists due, which samples
-- were accepted, and how the sampler stands then
pub record TakesTrigger
    {S E : Type 0} (send : SendGhosts S E) (ring : EndGhosts E) (before after : SamplerState S)
    (taken : Taken) (past : Past) (image : List ℕ) (stamp : ℕ)
    : Type 0 where
  pub due : IsSetOf taken.due (due_next past (Trigger image stamp))
  -- accepted and dropped together are the lists due, and share no list
  pub together :
      (l : ℕ) → (has_list taken.accepted l || has_list taken.dropped l) ≡ has_list taken.due l
  pub apart : (l : ℕ) → (has_list taken.accepted l && has_list taken.dropped l) ≡ false
  pub stands : StandsAfter send ring after (after_trigger taken past image stamp)
  -- a sample is dropped only if its cost, with those accepted before it at this trigger, is over
  -- what was known to be free
  pub over_free :
      (k : ℕ) (plan : ListPlan) →
      slice_get (due_next past (Trigger image stamp)) k ≡ Some plan →
      has_list taken.accepted plan.list ≡ false →
      let o = past.opening in
      let h = past.history ++ Trigger image stamp ∷ [] in
      let d = past.decisions ++ decisions_of taken past (Trigger image stamp) in
      let j = length past.decisions + k in
      send.free before.end
      < units ring.cost (items_at o h (take j d) (past.history, Trigger image stamp))
      + ring.cost (sample o h d j plan image stamp)
