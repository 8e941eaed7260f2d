-- What a contract sees of a `Sampler`, and of what is left of one.
use Rattle.std.specs.Prelude.{◌≡◌, ℕ, ◌+◌, ◌≤◌, Bool, false, not, List, [], ◌∷◌, map, nat_eq}
use Rattle.std.specs.Prelude.{position, slice_get, Some, None}
use Rattle.std.specs.Option.{option_and_then}
use Rattle.std.specs.declared.option.Option.{Option}
use Rattle.xcp_base.specs.declared.item.Item.{Item}
use Rattle.channel_ring.specs.declared.ends.RingEnd.{Ghosts as EndGhosts}
use Rattle.segments.specs.declared.segment.Segment.{Segment}
use Rattle.copy_plan.specs.Config.{IsPlan, ListPlan}
use Rattle.sampler.specs.declared.track.Track.{Track}
use Rattle.sampler.specs.declared.counts.ListCounts.{ListCounts}

-- the event channel, the segments of memory, its plans, the send end, what is kept of each list,
-- and how many triggers and samples were accepted
pub record SamplerState (S : Type 0) : Type 0 where
  pub channel : ℕ
  pub segments : List Segment
  pub plans : List ListPlan
  pub end : S
  pub tracks : List Track
  pub triggers : ℕ
  pub accepted : ℕ

-- what is left of a sampler: its event channel, its plans, what is left of its send end, what
-- became of each list's samples, and the end's capacity
pub record SamplerEndState (E : Type 0) : Type 0 where
  pub channel : ℕ
  pub plans : List ListPlan
  pub end : E
  pub counts : List ListCounts
  pub capacity : ℕ

-- the same if the ring's capacity, the cost of an item in it and all that was sent stand for the
-- end
pub record JoinedEnd : Type 0 where
  pub channel : ℕ
  pub plans : List ListPlan
  pub counts : List ListCounts
  pub capacity : ℕ
  pub cost : Item → ℕ
  pub sent : List Item

-- what is left of a sampler, if an item has this cost and these items were sent
abbrev pub joined_with : {E : Type 0} → (Item → ℕ) → List Item → SamplerEndState E → JoinedEnd
joined_with cost sent s = record {
  channel = s.channel;
  plans = s.plans;
  counts = s.counts;
  capacity = s.capacity;
  cost = cost;
  sent = sent;
}

-- what is left of a sampler, as its end says what was sent
abbrev pub joined : {E : Type 0} → EndGhosts E → SamplerEndState E → JoinedEnd
joined ring s = joined_with ring.cost (ring.all_sent s.end) s

-- what was sent to each of the rings, as the joined ends have it
abbrev pub sent_by : List JoinedEnd → List (List Item)
sent_by ends = map (λ (e : JoinedEnd). e.sent) ends

-- the place of list l among the plans
abbrev pub place_of : ℕ → List ListPlan → Option ℕ
place_of l plans = position (λ (plan : ListPlan). nat_eq plan.list l) plans

-- what is kept of list l, if these tracks are kept of these plans
abbrev pub found_at : ℕ → List ListPlan → List Track → Option Track
found_at l plans tracks = option_and_then (λ i. slice_get tracks i) (place_of l plans)

-- what is kept of list l, if it is the channel's
abbrev pub track_at : {S : Type 0} → SamplerState S → ℕ → Option Track
track_at s l = found_at l s.plans s.tracks

-- what became of the samples of list l, if it was the channel's
abbrev pub counts_at : {E : Type 0} → SamplerEndState E → ℕ → Option ListCounts
counts_at s l = option_and_then (λ i. slice_get s.counts i) (place_of l s.plans)

-- a list of which this is kept is there and runs
abbrev pub track_runs : Option Track → Bool
track_runs None = false
track_runs (Some track) = track.running

-- a list of which this is kept is there and doesn't run
abbrev pub track_is_stopped : Option Track → Bool
track_is_stopped None = false
track_is_stopped (Some track) = not track.running

-- list l of the channel runs
abbrev pub runs_in : {S : Type 0} → SamplerState S → ℕ → Bool
runs_in s l = track_runs (track_at s l)

-- list l is of the channel and does not run
abbrev pub stopped_in : {S : Type 0} → SamplerState S → ℕ → Bool
stopped_in s l = track_is_stopped (track_at s l)

-- plans of one channel for memory in these segments
abbrev pub ArePlansOf : ℕ → List Segment → List ListPlan → Type 0
ArePlansOf channel segments [] = Unit {0}
ArePlansOf channel segments (plan ∷ plans) =
    (IsPlan plan × (plan.channel ≡ channel) × (plan.segments ≡ segments))
    × ArePlansOf channel segments plans

-- their list numbers rise, and the first is at least this one
abbrev pub RiseFrom : ℕ → List ListPlan → Type 0
RiseFrom least [] = Unit {0}
RiseFrom least (plan ∷ plans) = (least ≤ plan.list) × RiseFrom (plan.list + 1) plans
