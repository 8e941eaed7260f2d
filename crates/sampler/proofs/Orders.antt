-- A sampler stands after a start and after a stop.
use Rattle.std.proofs.Common.{◌≡◌, ℕ, Bool, true, false, List, [], ◌∷◌, ◌++◌, length, take, get_or, set, map, refl, sym, ap, ◌∙◌, arith, subst}
use Rattle.std.specs.Prelude.{Some, count_by}
use Rattle.xcp_base.specs.declared.item.Item.TheVariants.{Marker}
use Rattle.channel_ring.specs.declared.ends.SendEnd.{Ghosts as SendGhosts}
use Rattle.channel_ring.specs.declared.ends.RingEnd.{Ghosts as EndGhosts}
use Rattle.segments.specs.declared.segment.Segment.{Segment}
use Rattle.copy_plan.specs.Config.{ListPlan}
use Rattle.sampler.specs.History.{Event, Start, Stop, Opening, due_at, is_trigger}
use Rattle.sampler.specs.Past.{Past, one_more}
use Rattle.sampler.specs.Items.{items_at}
use Rattle.sampler.specs.Tracks.{track_of}
use Rattle.sampler.specs.State.{SamplerState, RiseFrom, place_of}
use Rattle.sampler.specs.Standing.{StandsAfter}
use Rattle.sampler.specs.declared.track.TheConstants.{NEVER}
use Rattle.sampler.specs.declared.track.Track.{Track}
use Rattle.sampler.proofs.Histories.{append_nil}
use Rattle.sampler.proofs.Stands.{stands-more}
use Rattle.sampler.proofs.Places.{changed_at, no_track, place-below, take-set_at}
use Rattle.std.proofs.lemmas.List.{get_or-take}
use Rattle.sampler.proofs.Tracking.{track-start_other, track-start_same, track-stop_other, track-stop_same}

module _ {S E : Type 0} (send : SendGhosts S E) (ring : EndGhosts E) (before after : SamplerState S) (past : Past) (l i : ℕ) (rising : RiseFrom 0 before.plans) (at : place_of l before.plans ≡ Some i) (stands : StandsAfter send ring before past) where
  abbrev o : Opening
  o = past.opening

  abbrev h : List Event
  h = past.history

  abbrev d : List Bool
  d = past.decisions

  rising_there : RiseFrom 0 o.plans
  rising_there = subst (RiseFrom 0) stands.plans rising

  at_there : place_of l o.plans ≡ Some i
  at_there = ap (place_of l) (sym stands.plans) ∙ at

  pub start-tracks : map (track_of o (h ++ Start l ∷ []) d) o.plans ≡ set before.tracks i (record (get_or before.tracks i no_track) { running = true; next = before.triggers })
  start-tracks =
      let t : Track = get_or before.tracks i no_track in
      changed_at (track_of o h d) (track_of o (h ++ Start l ∷ []) d) l t (record t { running = true; next = before.triggers })
      (λ plan other. track-start_other o h d l plan other)
      (λ plan same is. track-start_same o h d l plan same ∙ ap (λ (x : Track). record x { running = true; next = count_by is_trigger h }) is ∙ ap (λ n. record t { running = true; next = n }) (sym stands.triggers))
      o.plans i rising_there at_there (ap (λ ts. get_or ts i no_track) (sym stands.tracks))
      ∙ ap (λ ts. set ts i (record t { running = true; next = before.triggers })) (sym stands.tracks)

  pub start-stands : after.channel ≡ before.channel → after.plans ≡ before.plans → after.end ≡ before.end → after.tracks ≡ set before.tracks i (record (get_or before.tracks i no_track) { running = true; next = before.triggers }) → after.triggers ≡ before.triggers → after.accepted ≡ before.accepted → StandsAfter send ring after (one_more past (Start l) [])
  unfolding items_at due_at
  start-stands channel plans end tracks triggers accepted =
      stands-more send ring before after past (Start l) [] stands (record {
        same_channel = channel;
        same_plans = plans;
        decisions = refl;
        sent = ap send.sent end ∙ sym (append_nil (send.sent before.end));
        tracks = rw (append_nil d) (tracks ∙ sym start-tracks);
        triggers = omega (arith, triggers);
        accepted = omega (arith, accepted);
        same_capacity = ap send.capacity end;
        drops = tt;
      })

  pub stop-tracks : map (track_of o (h ++ Stop l ∷ []) d) o.plans ≡ set before.tracks i (record (get_or before.tracks i no_track) { running = false; next = NEVER })
  unfolding track_of
  stop-tracks =
      let t : Track = get_or before.tracks i no_track in
      changed_at (track_of o h d) (track_of o (h ++ Stop l ∷ []) d) l t (record t { running = false; next = NEVER })
      (λ plan other. track-stop_other o h d l plan other)
      (λ plan same is. track-stop_same o h d l plan same ∙ ap (λ (x : Track). record x { running = false; next = NEVER }) is)
      o.plans i rising_there at_there (ap (λ ts. get_or ts i no_track) (sym stands.tracks))
      ∙ ap (λ ts. set ts i (record t { running = false; next = NEVER })) (sym stands.tracks)

  pub stop-stands : after.channel ≡ before.channel → after.plans ≡ before.plans → send.sent after.end ≡ send.sent before.end ++ Marker (record { channel = before.channel; list = l }) ∷ [] → send.capacity after.end ≡ send.capacity before.end → after.tracks ≡ set before.tracks i (record (get_or before.tracks i no_track) { running = false; next = NEVER }) → after.triggers ≡ before.triggers → after.accepted ≡ before.accepted → StandsAfter send ring after (one_more past (Stop l) [])
  unfolding items_at due_at
  stop-stands channel plans sent capacity tracks triggers accepted =
      stands-more send ring before after past (Stop l) [] stands (record {
        same_channel = channel;
        same_plans = plans;
        decisions = refl;
        sent = sent ∙ ap (λ c. send.sent before.end ++ Marker (record { channel = c; list = l }) ∷ []) stands.channel;
        tracks = rw (append_nil d) (tracks ∙ sym stop-tracks);
        triggers = omega (arith, triggers);
        accepted = omega (arith, accepted);
        same_capacity = capacity;
        drops = tt;
      })

module _ {S E : Type 0} (send : SendGhosts S E) (ring : EndGhosts E) (channel : ℕ) (segments : List Segment) (plans : List ListPlan) (end new_end : S) (tracks : List Track) (u : Track) (triggers accepted l i : ℕ) (rising : RiseFrom 0 plans) (at : place_of l plans ≡ Some i) (past : Past) where
  here : get_or (take (length plans) tracks) i no_track ≡ get_or tracks i no_track
  here = get_or-take (length plans) tracks i no_track (place-below l plans i at)

  pub start-inside :
      u ≡ record (get_or tracks i no_track) { running = true; next = triggers } →
      StandsAfter send ring (record { channel = channel; segments = segments; plans = plans; end = end; tracks = take (length plans) tracks; triggers = triggers; accepted = accepted }) past →
      StandsAfter send ring (record { channel = channel; segments = segments; plans = plans; end = end; tracks = take (length plans) (set tracks i u); triggers = triggers; accepted = accepted }) (one_more past (Start l) [])
  start-inside is stands =
      start-stands send ring _ _ past l i rising at stands refl refl refl
      (take-set_at tracks (length plans) i u ∙ ap (set (take (length plans) tracks) i) is ∙ ap (λ (t : Track). set (take (length plans) tracks) i (record t { running = true; next = triggers })) (sym here))
      refl refl

  pub stop-inside :
      u ≡ record (get_or tracks i no_track) { running = false; next = NEVER } →
      send.sent new_end ≡ send.sent end ++ Marker (record { channel = channel; list = l }) ∷ [] →
      send.capacity new_end ≡ send.capacity end →
      StandsAfter send ring (record { channel = channel; segments = segments; plans = plans; end = end; tracks = take (length plans) tracks; triggers = triggers; accepted = accepted }) past →
      StandsAfter send ring (record { channel = channel; segments = segments; plans = plans; end = new_end; tracks = take (length plans) (set tracks i u); triggers = triggers; accepted = accepted }) (one_more past (Stop l) [])
  stop-inside is sent capacity stands =
      stop-stands send ring _ _ past l i rising at stands refl refl sent capacity
      (take-set_at tracks (length plans) i u ∙ ap (set (take (length plans) tracks) i) is ∙ ap (λ (t : Track). set (take (length plans) tracks) i (record t { running = false; next = NEVER })) (sym here))
      refl refl
