-- What is kept of the lists of a channel, and what it fits.
use Rattle.std.specs.Prelude.{◌≡◌, ℕ, ◌+◌, ◌*◌, ◌≤◌, Bool, false, length, List, [], ◌∷◌}
use Rattle.std.specs.Prelude.{take, if◌then◌else◌}
use Rattle.xcp_base.specs.declared.limits.TheConstants.{MAX_LISTS, MAX_TRIGGERS}
use Rattle.segments.specs.declared.segment.Segment.{Segment}
use Rattle.segments.specs.Image.{image_len}
use Rattle.channel_ring.specs.Making.{SampleLimit}
use Rattle.copy_plan.specs.Config.{ListPlan}
use Rattle.xcp_base.specs.Lists.{has_list}
use Rattle.sampler.specs.Limits.{AllKeepTo}
use Rattle.sampler.specs.State.{ArePlansOf, RiseFrom, found_at, track_runs}
use Rattle.sampler.specs.declared.track.TheConstants.{NEVER}
use Rattle.sampler.specs.declared.track.Track.{Track}

-- what is kept at the opening of list l, which runs if it is in the set
abbrev pub first_track : ℕ → ℕ → Track
first_track running l = record {
  running = has_list running l;
  next = if has_list running l then 0 else NEVER;
  pending = false;
  counts = record { due = 0; accepted = 0; dropped = 0 };
}

-- list l runs, if these tracks are kept of these plans
abbrev pub list_runs : ℕ → List ListPlan → List Track → Bool
list_runs l plans tracks = track_runs (found_at l plans tracks)

-- what is kept fits: a track for each plan, and counts that rise by one a trigger at most
abbrev pub TracksFit : ℕ → List ListPlan → List Track → Type 0
TracksFit triggers [] tracks = Unit {0}
TracksFit triggers (plan ∷ plans) [] = ⊥
TracksFit triggers (plan ∷ plans) (track ∷ tracks) =
    ((track.counts.due ≤ triggers)
    × (track.counts.accepted + track.counts.dropped ≡ track.counts.due))
    × TracksFit triggers plans tracks

-- none of the lists of which this is kept is due before this trigger
abbrev pub NoneDueBefore : ℕ → List Track → Type 0
NoneDueBefore soonest [] = Unit {0}
NoneDueBefore soonest (track ∷ tracks) = (soonest ≤ track.next) × NoneDueBefore soonest tracks

-- what every sampler keeps to
pub record IsSampler
    (channel len : ℕ) (segments : List Segment) (plans : List ListPlan) (tracks : List Track)
    (triggers soonest accepted : ℕ) (most : SampleLimit)
    : Type 0 where
  pub long : len ≡ image_len segments
  pub plans_of : ArePlansOf channel segments plans
  pub rising : RiseFrom 0 plans
  pub keep : AllKeepTo most plans
  pub room : length plans ≤ MAX_LISTS
  pub places : length tracks ≡ MAX_LISTS
  pub tracks_fit : TracksFit triggers plans tracks
  pub soonest_due : NoneDueBefore soonest (take (length plans) tracks)
  pub limit : triggers ≤ MAX_TRIGGERS
  pub accepted_limit : accepted ≤ MAX_LISTS * triggers
