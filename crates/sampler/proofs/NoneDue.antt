-- A trigger at which no list is due.
use Rattle.std.proofs.Common.{◌≡◌, ℕ, ◌+◌, ◌^◌, ◌<◌, ◌≤◌, Bool, true, false, List, [], ◌∷◌, ◌++◌, length, take, drop, map, refl, sym, ap, ◌∙◌, arith, nat_eq}
use Rattle.std.proofs.lemmas.Nat.Bits.{bit_at-zero}
use Rattle.channel_ring.specs.declared.ends.SendEnd.{Ghosts as SendGhosts}
use Rattle.channel_ring.specs.declared.ends.RingEnd.{Ghosts as EndGhosts}
use Rattle.segments.specs.declared.segment.Segment.{Segment}
use Rattle.copy_plan.specs.Config.{ListPlan}
use Rattle.sampler.specs.declared.counts.ListCounts.{ListCounts}
use Rattle.sampler.specs.declared.track.Track.{Track}
use Rattle.channel_ring.specs.Making.{SampleLimit}
use Rattle.sampler.specs.Inner.Fits.{NoneDueBefore, IsSampler}
use Rattle.sampler.specs.Inner.Moments.{MomentParts}
use Rattle.sampler.specs.Inner.AtTrigger.{Row, AreDue, any_row, row_of, row_after, row_due, row_accepted, row_dropped, triggered, row_items, rows_items, rows_count, first_stage, HandlesLists}
use Rattle.sampler.proofs.Handled.{TracksFit-mono, nothing}
use Rattle.sampler.proofs.Histories.{append_nil}
use Rattle.sampler.proofs.NextDue.{none-due}

-- the rows of lists none of which is due
abbrev rows_none : List ListPlan → List Track → List Row
rows_none [] tracks = []
rows_none (plan ∷ plans) [] = []
rows_none (plan ∷ plans) (t ∷ tracks) = row_of plan t false false ∷ rows_none plans tracks

of_plans_none : (plans : List ListPlan) (tracks : List Track) → length plans ≤ length tracks → map (λ (r : Row). r.plan) (rows_none plans tracks) ≡ plans
of_plans_none [] tracks fits = refl
of_plans_none (plan ∷ plans) [] fits = absurd (omega (arith, fits))
of_plans_none (plan ∷ plans) (t ∷ tracks) fits = ap (λ ps. plan ∷ ps) (of_plans_none plans tracks (omega (arith, fits)))

kept_none : (plans : List ListPlan) (tracks : List Track) → length plans ≤ length tracks → map (λ (r : Row). r.track) (rows_none plans tracks) ≡ take (length plans) tracks
kept_none [] tracks fits = refl
kept_none (plan ∷ plans) [] fits = refl
kept_none (plan ∷ plans) (t ∷ tracks) fits = ap (λ ts. t ∷ ts) (kept_none plans tracks (omega (arith, fits)))

dues_none : (soonest trigger : ℕ) (plans : List ListPlan) (tracks : List Track) → trigger < soonest → NoneDueBefore soonest (take (length plans) tracks) → AreDue trigger (rows_none plans tracks)
dues_none soonest trigger [] tracks before none = tt
dues_none soonest trigger (plan ∷ plans) [] before none = tt
dues_none soonest trigger (plan ∷ plans) (t ∷ tracks) before none = (sym (none-due soonest trigger t none.0 before), dues_none soonest trigger plans tracks before none.1)

same_counts : (c : ListCounts) → record { due = c.due + 0; accepted = c.accepted + 0; dropped = c.dropped + 0 } ≡ c
same_counts c =
    let a : c.due + 0 ≡ c.due = omega arith in
    let b : c.accepted + 0 ≡ c.accepted = omega arith in
    let d : c.dropped + 0 ≡ c.dropped = omega arith in
    ap (λ n. record { due = n; accepted = c.accepted + 0; dropped = c.dropped + 0 }) a
    ∙ ap (λ n. record { due = c.due; accepted = n; dropped = c.dropped + 0 }) b
    ∙ ap (λ n. record { due = c.due; accepted = c.accepted; dropped = n }) d

-- what is kept of a list that isn't due stays
same_track : (plan : ListPlan) (t : Track) → triggered plan t false false ≡ t
unfolding triggered
same_track plan t = ap (λ c. record { running = t.running; next = t.next; pending = t.pending; counts = c }) (same_counts t.counts)

keeps_none : (plans : List ListPlan) (tracks : List Track) → length plans ≤ length tracks → tracks ≡ map row_after (rows_none plans tracks) ++ drop (length plans) tracks
keeps_none [] tracks fits = refl
keeps_none (plan ∷ plans) [] fits = absurd (omega (arith, fits))
keeps_none (plan ∷ plans) (t ∷ tracks) fits =
    ap (λ ts. t ∷ ts) (keeps_none plans tracks (omega (arith, fits)))
    ∙ ap (λ x. x ∷ (map row_after (rows_none plans tracks) ++ drop (length plans) tracks)) (sym (same_track plan t))

count_none : (plans : List ListPlan) (tracks : List Track) → rows_count (rows_none plans tracks) ≡ 0
unfolding rows_count
count_none [] tracks = refl
count_none (plan ∷ plans) [] = refl
count_none (plan ∷ plans) (t ∷ tracks) = omega (arith, count_none plans tracks)

items_none : (m : MomentParts) (number : ℕ) (plans : List ListPlan) (tracks : List Track) → rows_items m number (rows_none plans tracks) ≡ []
unfolding rows_items row_items
items_none m number [] tracks = refl
items_none m number (plan ∷ plans) [] = refl
items_none m number (plan ∷ plans) (t ∷ tracks) = items_none m (number + 0) plans tracks

none_in : (plans : List ListPlan) (tracks : List Track) (done rest : List Row) (row : Row) → rows_none plans tracks ≡ done ++ row ∷ rest → row.due ≡ false
none_in [] tracks done rest row is = absurd (nothing done rest row is)
none_in (plan ∷ plans) [] done rest row is = absurd (nothing done rest row is)
none_in (plan ∷ plans) (t ∷ tracks) [] rest row is =
    let first : row_of plan t false false ≡ row = cc in
    ap (λ (r : Row). r.due) (sym first)
none_in (plan ∷ plans) (t ∷ tracks) (x ∷ done) rest row is =
    let later : rows_none plans tracks ≡ done ++ row ∷ rest = cc in
    none_in plans tracks done rest row later

any_none : (test : Row → Bool) (l : ℕ) (plans : List ListPlan) (tracks : List Track) → ((plan : ListPlan) (t : Track) → test (row_of plan t false false) ≡ false) → any_row test l (rows_none plans tracks) ≡ false
any_none test l [] tracks fails = refl
any_none test l (plan ∷ plans) [] fails = refl
any_none test l (plan ∷ plans) (t ∷ tracks) fails = rw (fails plan t) (any_none test l plans tracks fails)

-- where none of the lists is due, a trigger handles them by leaving all as it stands
pub handles-none_due : {S E : Type 0} (send : SendGhosts S E) (ring : EndGhosts E) (m : MomentParts) (plans : List ListPlan) (end : S) (tracks : List Track) (number soonest : ℕ) → length plans ≤ length tracks → m.trigger < soonest → NoneDueBefore soonest (take (length plans) tracks) → HandlesLists send ring m plans (first_stage end tracks number) (first_stage end tracks number)
handles-none_due send ring m plans end tracks number soonest fits before none = record {
  rows = rows_none plans tracks;
  of_plans = of_plans_none plans tracks fits;
  kept = kept_none plans tracks fits;
  dues = dues_none soonest m.trigger plans tracks before none;
  keeps = keeps_none plans tracks fits;
  count = omega (arith, count_none plans tracks);
  sends = sym (append_nil (send.sent end)) ∙ ap (λ xs. send.sent end ++ xs) (sym (items_none m number plans tracks));
  free = omega arith;
  over = λ done rest row is due. let w : false ≡ true = sym (none_in plans tracks done rest row is) ∙ due in absurd cc;
  due = λ l. ap (λ n. nat_eq n 1) (bit_at-zero l) ∙ sym (any_none row_due l plans tracks (λ plan t. refl));
  accepted = λ l. ap (λ n. nat_eq n 1) (bit_at-zero l) ∙ sym (any_none row_accepted l plans tracks (λ plan t. refl));
  dropped = λ l. ap (λ n. nat_eq n 1) (bit_at-zero l) ∙ sym (any_none row_dropped l plans tracks (λ plan t. refl));
}

-- and the sampler keeps to its limits
pub IsSampler-none_due : (channel image_len : ℕ) (segments : List Segment) (plans : List ListPlan) (tracks : List Track) (triggers soonest accepted : ℕ) (most : SampleLimit) → IsSampler channel image_len segments plans tracks triggers soonest accepted most → triggers < 2 ^ 59 → IsSampler channel image_len segments plans tracks (triggers + 1) soonest accepted most
IsSampler-none_due channel image_len segments plans tracks triggers soonest accepted most s below = record {
  long = s.long;
  plans_of = s.plans_of;
  rising = s.rising;
  keep = s.keep;
  room = s.room;
  places = s.places;
  tracks_fit = TracksFit-mono triggers (triggers + 1) plans tracks (omega arith) s.tracks_fit;
  soonest_due = s.soonest_due;
  limit = omega (arith, below);
  accepted_limit = omega (arith, s.accepted_limit);
}
