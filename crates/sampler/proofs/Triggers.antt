-- A sampler stands after a trigger.
use Rattle.std.proofs.Common.{◌≡◌, ℕ, zero, suc, ◌+◌, ◌<◌, ◌≤◌, Bool, true, false, cond, not, ◌&&◌, ◌||◌, List, [], ◌∷◌, ◌++◌, length, take, drop, map, refl, sym, ap, ◌∙◌, arith, subst, append_assoc, nat_eq}
use Rattle.std.specs.Prelude.{Option, Some, count_by, slice_get}
use Rattle.std.proofs.Math.Seq.{take-append-add, take-append_seam}
use Rattle.std.proofs.lemmas.List.{take_at}
use Rattle.channel_ring.specs.Room.{units, units-append}
use Rattle.channel_ring.specs.declared.ends.SendEnd.{Ghosts as SendGhosts}
use Rattle.channel_ring.specs.declared.ends.RingEnd.{Ghosts as EndGhosts}
use Rattle.segments.specs.declared.segment.Segment.{Segment}
use Rattle.copy_plan.specs.Config.{ListPlan}
use Rattle.xcp_base.specs.Lists.{has_list}
use Rattle.sampler.specs.History.{Event, Trigger, Opening, is_due, is_trigger, due, due_at}
use Rattle.sampler.specs.Past.{Past, one_more}
use Rattle.sampler.specs.Decisions.{accepted_in}
use Rattle.sampler.specs.Items.{items, items_at, sample, samples_from}
use Rattle.sampler.specs.Tracks.{track_of}
use Rattle.sampler.specs.State.{SamplerState, ArePlansOf, RiseFrom}
use Rattle.sampler.specs.Inner.Moments.{MomentParts}
use Rattle.sampler.specs.Inner.AtTrigger.{Row, AreDue, due_now, triggered, item_of, rows_items, rows_count, first_stage, HandlesLists}
use Rattle.sampler.specs.Standing.{StandsAfter, TakesTrigger}
use Rattle.sampler.specs.Sets.{are_in}
use Rattle.sampler.proofs.TakenSets.{any-due_plans, any-here, accepted-due, dropped-due, decisions-are_in}
use Rattle.std.specs.List.{list_any}
use Rattle.sampler.specs.declared.track.Track.{Track}
use Rattle.sampler.specs.declared.taken.Taken.{Taken}
use Rattle.sampler.proofs.Histories.{append_nil, items-more, length-map_of, slice_get-behind}
use Rattle.sampler.proofs.Drops.{NewDrops}
use Rattle.sampler.proofs.Stands.{stands-more}
use Rattle.sampler.proofs.Rows.{due_plans, decisions, plans_of, RowsAre, due_at-rows, due_now-is, track-more, length-due_plans}
use Rattle.sampler.proofs.RowItems.{samples-rows, sample-row, count-decisions, decisions-append}

together_of : (due accepted dropped : Bool) → accepted ≡ (due && accepted) → dropped ≡ (due && not accepted) → (accepted || dropped) ≡ due
together_of true true dropped a b = refl
together_of true false dropped a b = b
together_of false true dropped a b = absurd cc
together_of false false dropped a b = b

apart_of : (due accepted dropped : Bool) → accepted ≡ (due && accepted) → dropped ≡ (due && not accepted) → (accepted && dropped) ≡ false
apart_of true true dropped a b = b
apart_of true false dropped a b = refl
apart_of false true dropped a b = absurd cc
apart_of false false dropped a b = refl

cons-equal : {X : Type 0} (x y : X) (xs ys : List X) → x ∷ xs ≡ y ∷ ys → (x ≡ y) × (xs ≡ ys)
cons-equal x y xs ys e = (cc, cc)

-- rows whose tracks are those of the history keep what the history says
rows-are : (channel : ℕ) (segments : List Segment) (o : Opening) (h : List Event) (d : List Bool) (rows : List Row) → map (λ (r : Row). r.track) rows ≡ map (track_of o h d) (plans_of rows) → AreDue (count_by is_trigger h) rows → ArePlansOf channel segments (plans_of rows) → RowsAre o h d rows
rows-are channel segments o h d [] e dues a = tt
rows-are channel segments o h d (r ∷ rows) e dues a =
    let both : (r.track ≡ track_of o h d r.plan) × (map (λ (x : Row). x.track) rows ≡ map (track_of o h d) (plans_of rows)) = cons-equal r.track (track_of o h d r.plan) (map (λ (x : Row). x.track) rows) (map (track_of o h d) (plans_of rows)) e in
    let some : 0 < r.plan.prescaler = a.0.0.prescaler in
    let is : r.due ≡ is_due o h r.plan = dues.0 ∙ ap (due_now (count_by is_trigger h)) both.0 ∙ due_now-is o h d r.plan some in
    ((both.0, is, some), rows-are channel segments o h d rows both.1 dues.1 a.1)

are-part : (o : Opening) (h : List Event) (d : List Bool) (pre post : List Row) → RowsAre o h d (pre ++ post) → RowsAre o h d pre
are-part o h d [] post a = tt
are-part o h d (r ∷ pre) post a = (a.0, are-part o h d pre post a.1)

are-at : (o : Opening) (h : List Event) (d : List Bool) (done rest : List Row) (r : Row) → RowsAre o h d (done ++ r ∷ rest) → (r.track ≡ track_of o h d r.plan) × (r.due ≡ is_due o h r.plan) × (0 < r.plan.prescaler)
are-at o h d [] rest r a = a.0
are-at o h d (x ∷ done) rest r a = are-at o h d done rest r a.1

Bool-equal : (a b : Bool) → ◌≡◌ {A = Option Bool} (Some a) (Some b) → a ≡ b
Bool-equal a b e = cc

-- the k-th due plan is a row's
record Located (rows : List Row) (k : ℕ) (plan : ListPlan) : Type 0 where
  pub done : List Row
  pub rest : List Row
  pub row : Row
  pub split : rows ≡ done ++ row ∷ rest
  pub is_due : row.due ≡ true
  pub of_plan : row.plan ≡ plan
  pub place : length (decisions done) ≡ k
  pub decision : slice_get (decisions rows) k ≡ Some row.accepted

Some-equal : (a b : ListPlan) → Some a ≡ Some b → a ≡ b
Some-equal a b e = cc

located-at : (r : Row) (rows : List Row) (k : ℕ) (plan : ListPlan) (b : Bool) → r.due ≡ b → ((m : ℕ) → slice_get (due_plans rows) m ≡ Some plan → Located rows m plan) → slice_get (cond b (r.plan ∷ due_plans rows) (due_plans rows)) k ≡ Some plan → Located (r ∷ rows) k plan
located-at r rows zero plan true due_r later e = record {
  done = [];
  rest = rows;
  row = r;
  split = refl;
  is_due = due_r;
  of_plan = Some-equal r.plan plan e;
  place = refl;
  decision = ap (λ b. slice_get (cond b (r.accepted ∷ decisions rows) (decisions rows)) 0) due_r;
}
located-at r rows (suc k) plan true due_r later e =
    let w : Located rows k plan = later k e in
    record {
      done = r ∷ w.done;
      rest = w.rest;
      row = w.row;
      split = ap (λ rs. r ∷ rs) w.split;
      is_due = w.is_due;
      of_plan = w.of_plan;
      place = ap (λ b. length (cond b (r.accepted ∷ decisions w.done) (decisions w.done))) due_r ∙ ap (λ n. suc n) w.place;
      decision = ap (λ b. slice_get (cond b (r.accepted ∷ decisions rows) (decisions rows)) (suc k)) due_r ∙ w.decision;
    }
located-at r rows k plan false due_r later e =
    let w : Located rows k plan = later k e in
    record {
      done = r ∷ w.done;
      rest = w.rest;
      row = w.row;
      split = ap (λ rs. r ∷ rs) w.split;
      is_due = w.is_due;
      of_plan = w.of_plan;
      place = ap (λ b. length (cond b (r.accepted ∷ decisions w.done) (decisions w.done))) due_r ∙ w.place;
      decision = ap (λ b. slice_get (cond b (r.accepted ∷ decisions rows) (decisions rows)) k) due_r ∙ w.decision;
    }

located : (rows : List Row) (k : ℕ) (plan : ListPlan) → slice_get (due_plans rows) k ≡ Some plan → Located rows k plan
located [] k plan e = absurd cc
located (r ∷ rows) k plan e = located-at r rows k plan (r.due) refl (λ m f. located rows m plan f) e

module _ {S E : Type 0} (send : SendGhosts S E) (ring : EndGhosts E) (before after : SamplerState S) (past : Past) (image : List ℕ) (stamp : ℕ) (kept after_tracks : List Track) (taken : Taken)
    (segments : List Segment)
    (plans_are : ArePlansOf before.channel segments before.plans)
    (rise : RiseFrom 0 before.plans)
    (stands : StandsAfter send ring before past)
    (handled : HandlesLists send ring (record { channel = before.channel; trigger = before.triggers; segments = segments; image = image; stamp = stamp }) before.plans (first_stage before.end kept before.accepted) (record { end = after.end; tracks = after_tracks; taken = taken; next = after.accepted }))
    (tracks_before : take (length before.plans) kept ≡ before.tracks)
    (free_bound : send.capacity before.end ≤ send.free before.end + units ring.cost (send.sent before.end)) where
  abbrev o : Opening
  o = past.opening

  abbrev h : List Event
  h = past.history

  abbrev d : List Bool
  d = past.decisions

  abbrev m : MomentParts
  m = record { channel = before.channel; trigger = before.triggers; segments = segments; image = image; stamp = stamp }

  abbrev rows : List Row
  rows = handled.rows

  of_plans : plans_of rows ≡ o.plans
  of_plans = handled.of_plans ∙ stands.plans

  pub are : RowsAre o h d rows
  are =
      rows-are before.channel segments o h d rows
      (handled.kept ∙ tracks_before ∙ stands.tracks ∙ ap (map (track_of o h d)) (sym of_plans))
      (subst (λ n. AreDue n rows) stands.triggers handled.dues)
      (subst (ArePlansOf before.channel segments) (sym handled.of_plans) plans_are)

  rising : RiseFrom 0 (plans_of rows)
  rising = subst (RiseFrom 0) (sym handled.of_plans) rise

  -- what the first rows send at this trigger
  items_at-rows : (pre post : List Row) → rows ≡ pre ++ post → items_at o (h ++ Trigger image stamp ∷ []) (d ++ decisions pre) (h, Trigger image stamp) ≡ rows_items m before.accepted pre
  unfolding items_at rows_count
  items_at-rows pre post is =
      ap (λ ps. samples_from o (h ++ Trigger image stamp ∷ []) (d ++ decisions pre) (length (due o h)) ps image stamp) (due_at-rows o h d image stamp stands.decisions rows of_plans are ∙ ap due_plans is)
      ∙ ap (λ j. samples_from o (h ++ Trigger image stamp ∷ []) (d ++ decisions pre) j (due_plans (pre ++ post)) image stamp) at
      ∙ samples-rows segments o h d image stamp stands.decisions rows of_plans are rising [] pre post is (are-part o h d pre post (subst (RowsAre o h d) is are))
      ∙ ap (λ n. rows_items (record m { channel = o.channel; trigger = n }) (accepted_in d + 0) pre) (sym stands.triggers)
      ∙ ap (λ c. rows_items (record m { channel = c }) (accepted_in d + 0) pre) (sym stands.channel)
      ∙ ap (λ n. rows_items m n pre) number
    where
      at : length (due o h) ≡ length d + 0
      at = omega (arith, stands.decisions)

      number : accepted_in d + 0 ≡ before.accepted
      number = omega (arith, stands.accepted)

  -- the items up to those that the first rows send
  items-rows : (pre post : List Row) → rows ≡ pre ++ post → items o (h ++ Trigger image stamp ∷ []) (d ++ decisions pre) ≡ send.sent before.end ++ rows_items m before.accepted pre
  items-rows pre post is =
      items-more o h (Trigger image stamp) d (decisions pre) stands.decisions
      ∙ ap (λ xs. xs ++ items_at o (h ++ Trigger image stamp ∷ []) (d ++ decisions pre) (h, Trigger image stamp)) (sym stands.sent)
      ∙ ap (λ xs. send.sent before.end ++ xs) (items_at-rows pre post is)

  -- each list is kept as the longer history says
  tracks-part : (done rest : List Row) → rows ≡ done ++ rest → RowsAre o h d rest → map (track_of o (h ++ Trigger image stamp ∷ []) (d ++ decisions rows)) (plans_of rest) ≡ map (λ (r : Row). triggered r.plan r.track r.due r.accepted) rest
  tracks-part done [] is are_rest = refl
  tracks-part done (r ∷ rest) is are_rest =
      ap (λ ts. track_of o (h ++ Trigger image stamp ∷ []) (d ++ decisions rows) r.plan ∷ ts) (tracks-part (done ++ r ∷ []) rest (is ∙ sym (append_assoc done (r ∷ []) rest)) are_rest.1)
      ∙ ap (λ t. t ∷ map (λ (x : Row). triggered x.plan x.track x.due x.accepted) rest) (track-more o h d image stamp stands.decisions rows of_plans are done rest r is rising are_rest.0)

  -- the pair of a row: the decisions before it, and its sample
  pair-cut : (k : ℕ) (plan : ListPlan) (w : Located rows k plan) → take (length d + k) (d ++ decisions rows) ≡ d ++ decisions w.done
  pair-cut k plan w =
      take-append-add d (decisions rows) k
      ∙ ap (λ rs. d ++ take k (decisions rs)) w.split
      ∙ ap (λ ds. d ++ take k ds) (decisions-append w.done (w.row ∷ w.rest))
      ∙ ap (λ n. d ++ take n (decisions w.done ++ decisions (w.row ∷ w.rest))) (sym w.place)
      ∙ ap (λ ds. d ++ ds) (take-append_seam (decisions w.done) (decisions (w.row ∷ w.rest)))

  pair-item : (k : ℕ) (plan : ListPlan) (w : Located rows k plan) → sample o (h ++ Trigger image stamp ∷ []) (d ++ decisions rows) (length d + k) plan image stamp ≡ item_of m w.row.plan (before.accepted + rows_count w.done) w.row.track.pending
  pair-item k plan w =
      ap (λ p. sample o (h ++ Trigger image stamp ∷ []) (d ++ decisions rows) (length d + k) p image stamp) (sym w.of_plan)
      ∙ ap (λ rs. sample o (h ++ Trigger image stamp ∷ []) (d ++ decisions rs) (length d + k) w.row.plan image stamp) w.split
      ∙ ap (λ n. sample o (h ++ Trigger image stamp ∷ []) (d ++ decisions (w.done ++ w.row ∷ w.rest)) (length d + n) w.row.plan image stamp) (sym w.place)
      ∙ sample-row segments o h d image stamp stands.decisions rows of_plans are rising w.done w.rest [] w.row (w.split ∙ sym (append_nil (w.done ++ w.row ∷ w.rest))) w.is_due (are-at o h d w.done w.rest w.row (subst (RowsAre o h d) w.split are)).0
      ∙ ap (λ n. item_of (record m { channel = o.channel; trigger = n }) w.row.plan (accepted_in d + rows_count w.done) w.row.track.pending) (sym stands.triggers)
      ∙ ap (λ c. item_of (record m { channel = c }) w.row.plan (accepted_in d + rows_count w.done) w.row.track.pending) (sym stands.channel)
      ∙ ap (λ n. item_of m w.row.plan (n + rows_count w.done) w.row.track.pending) (sym stands.accepted)

  find-row : (k : ℕ) (plan : ListPlan) → slice_get (due_at o h (Trigger image stamp)) k ≡ Some plan → Located rows k plan
  find-row k plan at = located rows k plan (ap (λ ps. slice_get ps k) (sym (due_at-rows o h d image stamp stands.decisions rows of_plans are)) ∙ at)

  -- a new drop is beyond the capacity
  new-drops : NewDrops (send.capacity before.end) ring.cost past (decisions rows) (Trigger image stamp)
  new-drops = λ k plan at false_at.
      let w : Located rows k plan = find-row k plan at in
      let dropped : w.row.accepted ≡ false = Bool-equal w.row.accepted false (sym w.decision ∙ sym (slice_get-behind d (decisions rows) k) ∙ ap (λ n. slice_get (d ++ decisions rows) (n + k)) stands.decisions ∙ false_at) in
      let sent : items o (h ++ Trigger image stamp ∷ []) (take (length d + k) (d ++ decisions rows)) ≡ send.sent before.end ++ rows_items m before.accepted w.done =
      ap (items o (h ++ Trigger image stamp ∷ [])) (pair-cut k plan w) ∙ items-rows w.done (w.row ∷ w.rest) w.split in
      rw (← stands.decisions, sent, pair-item k plan w, units-append) (omega (arith, free_bound, handled.over w.done w.rest w.row w.split w.is_due dropped))

  -- the sampler stands after the trigger, with the decisions of its rows
  pub trigger-stands : after.channel ≡ before.channel → after.plans ≡ before.plans → after.tracks ≡ take (length before.plans) after_tracks → after.triggers ≡ before.triggers + 1 → send.capacity after.end ≡ send.capacity before.end → StandsAfter send ring after (one_more past (Trigger image stamp) (decisions rows))
  trigger-stands channel plans tracks triggers capacity =
      stands-more send ring before after past (Trigger image stamp) (decisions rows) stands (record {
        same_channel = channel;
        same_plans = plans;
        decisions = sym (length-due_plans rows) ∙ ap length (sym (due_at-rows o h d image stamp stands.decisions rows of_plans are));
        sent =
            handled.sends
            ∙ sym (items-rows rows [] (sym (append_nil rows)))
            ∙ items-more o h (Trigger image stamp) d (decisions rows) stands.decisions
            ∙ ap (λ xs. xs ++ items_at o (h ++ Trigger image stamp ∷ []) (d ++ decisions rows) (h, Trigger image stamp)) (sym stands.sent);
        tracks =
            tracks
            ∙ ap (take (length before.plans)) handled.keeps
            ∙ take_at (map (λ (r : Row). triggered r.plan r.track r.due r.accepted) rows) (drop (length before.plans) kept) (length before.plans) (length-map_of (λ (r : Row). triggered r.plan r.track r.due r.accepted) rows ∙ sym (length-map_of (λ (r : Row). r.plan) rows) ∙ ap length handled.of_plans)
            ∙ sym (tracks-part [] rows refl are)
            ∙ ap (map (track_of o (h ++ Trigger image stamp ∷ []) (d ++ decisions rows))) of_plans;
        triggers = triggers;
        accepted = handled.count ∙ ap (λ n. before.accepted + n) (sym (count-decisions rows));
        same_capacity = capacity;
        drops = new-drops;
      })

  the_decisions : are_in taken.accepted (due_at o h (Trigger image stamp)) ≡ decisions rows
  the_decisions = ap (are_in taken.accepted) (due_at-rows o h d image stamp stands.decisions rows of_plans are) ∙ decisions-are_in taken.accepted rows [] rows handled.accepted rising refl

  accepted_is : (l : ℕ) → has_list taken.accepted l ≡ (has_list taken.due l && has_list taken.accepted l)
  accepted_is l = let least : ℕ = 0 in rw (handled.due l, handled.accepted l) (accepted-due l rows least rising)

  dropped_is : (l : ℕ) → has_list taken.dropped l ≡ (has_list taken.due l && not (has_list taken.accepted l))
  dropped_is l = let least : ℕ = 0 in rw (handled.due l, handled.accepted l, handled.dropped l) (dropped-due l rows least rising)

  -- all that a trigger that is taken says
  pub takes-trigger : after.channel ≡ before.channel → after.plans ≡ before.plans → after.tracks ≡ take (length before.plans) after_tracks → after.triggers ≡ before.triggers + 1 → send.capacity after.end ≡ send.capacity before.end → TakesTrigger send ring before after taken past image stamp
  takes-trigger channel plans tracks triggers capacity = record {
    due = λ l. handled.due l ∙ any-due_plans l rows ∙ ap (λ ps. list_any (λ (plan : ListPlan). nat_eq plan.list l) ps) (sym (due_at-rows o h d image stamp stands.decisions rows of_plans are));
    together = λ l. together_of (has_list taken.due l) (has_list taken.accepted l) (has_list taken.dropped l) (accepted_is l) (dropped_is l);
    apart = λ l. apart_of (has_list taken.due l) (has_list taken.accepted l) (has_list taken.dropped l) (accepted_is l) (dropped_is l);
    stands = rw the_decisions (trigger-stands channel plans tracks triggers capacity);
    over_free = λ k plan at out.
        let w : Located rows k plan = find-row k plan at in
        let taken_here : has_list taken.accepted w.row.plan.list ≡ (w.row.due && w.row.accepted) =
        handled.accepted w.row.plan.list ∙ ap (λ rs. list_any (λ (r : Row). r.due && r.accepted && nat_eq r.plan.list w.row.plan.list) rs) w.split ∙ any-here (λ r. r.due && r.accepted) 0 w.done w.rest w.row (subst (λ (rs : List Row). RiseFrom 0 (plans_of rs)) w.split rising) in
        let dropped : w.row.accepted ≡ false =
        ap (λ b. b && w.row.accepted) (sym w.is_due) ∙ sym taken_here ∙ ap (λ (p : ListPlan). has_list taken.accepted p.list) w.of_plan ∙ out in
        let sent : items_at o (h ++ Trigger image stamp ∷ []) (take (length d + k) (d ++ decisions rows)) (h, Trigger image stamp) ≡ rows_items m before.accepted w.done =
        ap (λ e. items_at o (h ++ Trigger image stamp ∷ []) e (h, Trigger image stamp)) (pair-cut k plan w) ∙ items_at-rows w.done (w.row ∷ w.rest) w.split in
        rw (the_decisions, sent, pair-item k plan w) (handled.over w.done w.rest w.row w.split w.is_due dropped);
  }
