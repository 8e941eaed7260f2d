-- What is left of a sampler stands after what the sampler stood after.
use Rattle.std.proofs.Common.{◌≡◌, Bool, List, [], ◌∷◌, map, refl, ap, ◌∙◌}
use Rattle.channel_ring.specs.declared.ends.SendEnd.{Ghosts as SendGhosts}
use Rattle.channel_ring.specs.declared.ends.RingEnd.{Ghosts as EndGhosts}
use Rattle.copy_plan.specs.Config.{ListPlan}
use Rattle.sampler.specs.History.{Event, Opening}
use Rattle.sampler.specs.Past.{Past}
use Rattle.sampler.specs.Decisions.{decided, pairs_of}
use Rattle.sampler.specs.Tracks.{track_of, counts_of}
use Rattle.sampler.specs.State.{SamplerState, SamplerEndState, joined}
use Rattle.sampler.specs.Standing.{StandsAfter, EndStandsAfter}
use Rattle.sampler.specs.declared.track.Track.{Track}

counts-tracks : (o : Opening) (h : List Event) (d : List Bool) (plans : List ListPlan) → map (λ (t : Track). t.counts) (map (track_of o h d) plans) ≡ map (λ (plan : ListPlan). counts_of (pairs_of plan.list (decided o h d))) plans
unfolding track_of
counts-tracks o h d [] = refl
counts-tracks o h d (plan ∷ plans) = ap (λ cs. counts_of (pairs_of plan.list (decided o h d)) ∷ cs) (counts-tracks o h d plans)

pub end-stands : {S E : Type 0} (send : SendGhosts S E) (ring : EndGhosts E) (s : SamplerState S) (left : SamplerEndState E) (past : Past) → StandsAfter send ring s past → left.channel ≡ s.channel → left.plans ≡ s.plans → left.counts ≡ map (λ (t : Track). t.counts) s.tracks → left.capacity ≡ send.capacity s.end → ring.all_sent left.end ≡ send.sent s.end → EndStandsAfter (joined ring left) past
end-stands send ring s left past stands channel plans counts capacity sent = record {
  channel = channel ∙ stands.channel;
  plans = plans ∙ stands.plans;
  decisions = stands.decisions;
  sent = sent ∙ stands.sent;
  counts = counts ∙ ap (map (λ (t : Track). t.counts)) stands.tracks ∙ counts-tracks past.opening past.history past.decisions past.opening.plans;
  drops = rw capacity stands.drops;
}
