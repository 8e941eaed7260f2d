-- A sampler stands after one event more.
use Rattle.std.proofs.Common.{◌≡◌, ℕ, ◌+◌, Bool, cond, List, [], ◌∷◌, ◌++◌, length, map, sym, ap, ◌∙◌, arith, length-append}
use Rattle.std.proofs.lemmas.List.Sums.{sum_by-append, sum_by_push}
use Rattle.channel_ring.specs.declared.ends.SendEnd.{Ghosts as SendGhosts}
use Rattle.channel_ring.specs.declared.ends.RingEnd.{Ghosts as EndGhosts}
use Rattle.copy_plan.specs.Config.{ListPlan}
use Rattle.sampler.specs.History.{Event, Opening, is_trigger, due, due_at, pairs_at}
use Rattle.sampler.specs.Past.{Past, due_next, one_more}
use Rattle.sampler.specs.Decisions.{accepted_in}
use Rattle.sampler.specs.Items.{items_at}
use Rattle.sampler.specs.Tracks.{track_of}
use Rattle.sampler.specs.State.{SamplerState}
use Rattle.sampler.specs.Standing.{StandsAfter}
use Rattle.sampler.proofs.Histories.{due-more, items-more, length-map_of}
use Rattle.sampler.proofs.Drops.{NewDrops, drops-more}

-- the one comes behind the other by an event with these decisions
pub record Follows {S E : Type 0} (send : SendGhosts S E) (ring : EndGhosts E) (before after : SamplerState S) (past : Past) (e : Event) (ds : List Bool) : Type 0 where
  pub same_channel : after.channel ≡ before.channel
  pub same_plans : after.plans ≡ before.plans
  pub decisions : length ds ≡ length (due_next past e)
  pub sent : send.sent after.end ≡ send.sent before.end ++ items_at past.opening (past.history ++ e ∷ []) (past.decisions ++ ds) (past.history, e)
  pub tracks : after.tracks ≡ map (track_of past.opening (past.history ++ e ∷ []) (past.decisions ++ ds)) past.opening.plans
  pub triggers : after.triggers ≡ before.triggers + cond (is_trigger e) 1 0
  pub accepted : after.accepted ≡ before.accepted + accepted_in ds
  pub same_capacity : send.capacity after.end ≡ send.capacity before.end
  pub drops : NewDrops (send.capacity before.end) ring.cost past ds e

pub stands-more : {S E : Type 0} (send : SendGhosts S E) (ring : EndGhosts E) (before after : SamplerState S) (past : Past) (e : Event) (ds : List Bool) → StandsAfter send ring before past → Follows send ring before after past e ds → StandsAfter send ring after (one_more past e ds)
stands-more send ring before after past e ds s f =
    let o : Opening = past.opening in
    let h : List Event = past.history in
    let d : List Bool = past.decisions in
    record {
      channel = f.same_channel ∙ s.channel;
      plans = f.same_plans ∙ s.plans;
      decisions = omega (arith, length-append d ds, s.decisions, f.decisions, ap length (due-more o h e), length-append (due o h) (pairs_at o (h, e)), length-map_of {Y = ℕ × ℕ} (λ (plan : ListPlan). (length h, plan.list)) (due_at o h e));
      sent = f.sent ∙ ap (λ xs. xs ++ items_at o (h ++ e ∷ []) (d ++ ds) (h, e)) s.sent ∙ sym (items-more o h e d ds s.decisions);
      tracks = f.tracks;
      triggers = f.triggers ∙ ap (λ n. n + cond (is_trigger e) 1 0) s.triggers ∙ sym (sum_by_push (λ x. cond (is_trigger x) 1 0) h e);
      accepted = f.accepted ∙ ap (λ n. n + accepted_in ds) s.accepted ∙ sym (sum_by-append (λ b. cond b 1 0) d ds);
      drops = rw f.same_capacity (drops-more (send.capacity before.end) ring.cost past e ds s.decisions s.drops f.drops);
    }
