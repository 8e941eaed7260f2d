-- The rows of a trigger, and what the history and the decisions say of it.
use Rattle.std.proofs.Common.{◌≡◌, ℕ, suc, ◌+◌, ◌%◌, ◌<◌, ◌≤◌, Bool, true, false, cond, not, ◌&&◌, List, [], ◌∷◌, ◌++◌, length, map, refl, sym, ap, ◌∙◌, arith, subst, nat_eq, length-append}
use Rattle.std.specs.Prelude.{filter, zip, Option, Some, None, count_by, if◌then◌else◌}
use Rattle.std.specs.List.{last_or}
use Rattle.std.proofs.lemmas.Bool.{ne_eqb}
use Rattle.std.proofs.lemmas.Bool.Decides.{nat_tests}
use Rattle.std.proofs.lemmas.List.Elements.{filter-append}
use Rattle.std.proofs.lemmas.List.Sums.{sum_by_push}
use Rattle.copy_plan.specs.Config.{ListPlan}
use Rattle.sampler.specs.History.{Event, Trigger, Opening, due, due_at, is_due, is_trigger, runs_after, triggers_since_start}
use Rattle.sampler.specs.Decisions.{Decided, decided, pairs_of, is_of_list, is_drop, overload_pending}
use Rattle.sampler.specs.Tracks.{track_of, next_after, until_due, counts_of}
use Rattle.sampler.specs.State.{RiseFrom}
use Rattle.sampler.specs.Inner.AtTrigger.{Row, due_now, triggered}
use Rattle.sampler.specs.declared.track.TheConstants.{NEVER}
use Rattle.sampler.specs.declared.track.Track.{Track}
use Rattle.sampler.proofs.Histories.{append_nil, decided-more}
use Rattle.sampler.proofs.NextDue.{due-until, next-one}
use Rattle.sampler.proofs.Tracking.{runs-trigger, since-trigger, triggers-trigger}

-- the plans that are due, the decisions and the decided pairs of some rows
abbrev pub due_plans : List Row → List ListPlan
due_plans [] = []
due_plans (r ∷ rows) = cond (r.due) (r.plan ∷ due_plans rows) (due_plans rows)

abbrev pub decisions : List Row → List Bool
decisions [] = []
decisions (r ∷ rows) = cond (r.due) (r.accepted ∷ decisions rows) (decisions rows)

abbrev pub new_pairs : ℕ → List Row → List Decided
new_pairs i [] = []
new_pairs i (r ∷ rows) = cond (r.due) (((i, r.plan.list), r.accepted) ∷ new_pairs i rows) (new_pairs i rows)

abbrev pub plans_of : List Row → List ListPlan
plans_of rows = map (λ (r : Row). r.plan) rows

pub zip-is : (i : ℕ) (rows : List Row) → zip (map (λ (plan : ListPlan). (i, plan.list)) (due_plans rows)) (decisions rows) ≡ new_pairs i rows
zip-is i [] = refl
zip-is i (r ∷ rows) =
    elim (r.due) as (λ b. zip (map (λ (plan : ListPlan). (i, plan.list)) (cond b (r.plan ∷ due_plans rows) (due_plans rows))) (cond b (r.accepted ∷ decisions rows) (decisions rows)) ≡ cond b (((i, r.plan.list), r.accepted) ∷ new_pairs i rows) (new_pairs i rows)) [ true ↦ ap (λ rest. ((i, r.plan.list), r.accepted) ∷ rest) (zip-is i rows) | false ↦ zip-is i rows ]

pub length-due_plans : (rows : List Row) → length (due_plans rows) ≡ length (decisions rows)
length-due_plans [] = refl
length-due_plans (r ∷ rows) =
    elim (r.due) as (λ b. length (cond b (r.plan ∷ due_plans rows) (due_plans rows)) ≡ length (cond b (r.accepted ∷ decisions rows) (decisions rows))) [ true ↦ ap (λ n. suc n) (length-due_plans rows) | false ↦ length-due_plans rows ]

-- pairs of other lists
pairs_none : (i l least : ℕ) (rows : List Row) → RiseFrom least (plans_of rows) → l < least → pairs_of l (new_pairs i rows) ≡ []
pairs_none i l least [] rise below = refl
pairs_none i l least (r ∷ rows) rise below =
    let later : pairs_of l (new_pairs i rows) ≡ [] = pairs_none i l (r.plan.list + 1) rows rise.1 (omega (arith, rise.0)) in
    elim (r.due) as (λ b. pairs_of l (cond b (((i, r.plan.list), r.accepted) ∷ new_pairs i rows) (new_pairs i rows)) ≡ []) [ true ↦ rw (ne_eqb r.plan.list l (λ e. omega (arith, e, rise.0))) later | false ↦ later ]

pub rise_in : (least : ℕ) (done rest : List Row) (r : Row) → RiseFrom least (plans_of (done ++ r ∷ rest)) → least ≤ r.plan.list
rise_in least [] rest r rise = rise.0
rise_in least (x ∷ done) rest r rise = omega (arith, rise.0, rise_in (x.plan.list + 1) done rest r rise.1)

pub pairs_before : (i least : ℕ) (done rest : List Row) (r : Row) → RiseFrom least (plans_of (done ++ r ∷ rest)) → pairs_of r.plan.list (new_pairs i done) ≡ []
pairs_before i least [] rest r rise = refl
pairs_before i least (x ∷ done) rest r rise =
    let later : pairs_of r.plan.list (new_pairs i done) ≡ [] = pairs_before i (x.plan.list + 1) done rest r rise.1 in
    elim (x.due) as (λ b. pairs_of r.plan.list (cond b (((i, x.plan.list), x.accepted) ∷ new_pairs i done) (new_pairs i done)) ≡ []) [ true ↦ rw (ne_eqb x.plan.list r.plan.list (λ e. omega (arith, e, rise_in (x.plan.list + 1) done rest r rise.1))) later | false ↦ later ]

same_list : (l : ℕ) → nat_eq l l ≡ true
same_list l = grind (arith, nat_tests)

-- the pairs of one row's list
pub pairs_here : (i least : ℕ) (done rest : List Row) (r : Row) → RiseFrom least (plans_of (done ++ r ∷ rest)) → pairs_of r.plan.list (new_pairs i (done ++ r ∷ rest)) ≡ cond (r.due) (((i, r.plan.list), r.accepted) ∷ []) []
pairs_here i least [] rest r rise =
    let later : pairs_of r.plan.list (new_pairs i rest) ≡ [] = pairs_none i r.plan.list (r.plan.list + 1) rest rise.1 (omega arith) in
    elim (r.due) as (λ b. pairs_of r.plan.list (cond b (((i, r.plan.list), r.accepted) ∷ new_pairs i rest) (new_pairs i rest)) ≡ cond b (((i, r.plan.list), r.accepted) ∷ []) []) [ true ↦ rw (same_list r.plan.list) (ap (λ ps. ((i, r.plan.list), r.accepted) ∷ ps) later) | false ↦ later ]
pairs_here i least (x ∷ done) rest r rise =
    let later : pairs_of r.plan.list (new_pairs i (done ++ r ∷ rest)) ≡ cond (r.due) (((i, r.plan.list), r.accepted) ∷ []) [] = pairs_here i (x.plan.list + 1) done rest r rise.1 in
    elim (x.due) as (λ b. pairs_of r.plan.list (cond b (((i, x.plan.list), x.accepted) ∷ new_pairs i (done ++ r ∷ rest)) (new_pairs i (done ++ r ∷ rest))) ≡ cond (r.due) (((i, r.plan.list), r.accepted) ∷ []) []) [ true ↦ rw (ne_eqb x.plan.list r.plan.list (λ e. omega (arith, e, rise_in (x.plan.list + 1) done rest r rise.1))) later | false ↦ later ]

module _ (o : Opening) (h : List Event) (d : List Bool) where
  -- the rows keep what the history says
  abbrev pub RowsAre : List Row → Type 0
  RowsAre [] = Unit {0}
  RowsAre (r ∷ rows) =
      ((r.track ≡ track_of o h d r.plan) × (r.due ≡ is_due o h r.plan) × (0 < r.plan.prescaler))
      × RowsAre rows

  -- a list is due where what is kept of it says so
  pub due_now-is : (plan : ListPlan) → 0 < plan.prescaler → due_now (count_by is_trigger h) (track_of o h d plan) ≡ is_due o h plan
  unfolding track_of next_after is_due
  due_now-is plan some = by_case (runs_after o h plan.list)
    where
      by_case : (b : Bool) → (b && nat_eq (if b then count_by is_trigger h + until_due plan.prescaler (triggers_since_start h plan.list) else NEVER) (count_by is_trigger h)) ≡ (b && nat_eq (triggers_since_start h plan.list % plan.prescaler) 0)
      by_case true = due-until (count_by is_trigger h) plan.prescaler (triggers_since_start h plan.list) some
      by_case false = refl

  pub due_at-is : (image : List ℕ) (stamp : ℕ) (rows : List Row) → RowsAre rows → filter (is_due o h) (plans_of rows) ≡ due_plans rows
  due_at-is image stamp [] are = refl
  due_at-is image stamp (r ∷ rows) are =
      let same : is_due o h r.plan ≡ r.due = sym are.0.1 in
      ap (λ b. cond b (r.plan ∷ filter (is_due o h) (plans_of rows)) (filter (is_due o h) (plans_of rows))) same
      ∙ ap (λ ps. cond (r.due) (r.plan ∷ ps) ps) (due_at-is image stamp rows are.1)

last_or-one : {X : Type 0} (o : Option X) (xs : List X) (x : X) → last_or o (xs ++ x ∷ []) ≡ Some x
last_or-one o [] x = refl
last_or-one o (y ∷ xs) x = last_or-one (Some y) xs x

pending-one : (b : Bool) (xs : List Decided) (pair : Decided) → is_drop (last_or None (xs ++ cond b (pair ∷ []) [])) ≡ (if b then not pair.1 else is_drop (last_or None xs))
pending-one true xs pair = ap is_drop (last_or-one None xs pair)
pending-one false xs pair = ap (λ ps. is_drop (last_or None ps)) (append_nil xs)

counts-one : (b : Bool) (xs : List Decided) (pair : Decided) → counts_of (xs ++ cond b (pair ∷ []) []) ≡ record { due = (counts_of xs).due + (if b then 1 else 0); accepted = (counts_of xs).accepted + (if b && pair.1 then 1 else 0); dropped = (counts_of xs).dropped + (if b && not pair.1 then 1 else 0) }
unfolding counts_of
counts-one true xs pair =
    ap (λ n. record { due = n; accepted = count_by (λ (p : Decided). p.1) (xs ++ pair ∷ []); dropped = count_by (λ (p : Decided). not p.1) (xs ++ pair ∷ []) }) (length-append xs (pair ∷ []))
    ∙ ap (λ n. record { due = length xs + 1; accepted = n; dropped = count_by (λ (p : Decided). not p.1) (xs ++ pair ∷ []) }) (sum_by_push (λ (p : Decided). cond p.1 1 0) xs pair)
    ∙ ap (λ n. record { due = length xs + 1; accepted = count_by (λ (p : Decided). p.1) xs + cond pair.1 1 0; dropped = n }) (sum_by_push (λ (p : Decided). cond (not p.1) 1 0) xs pair)
counts-one false xs pair =
    let none : xs ++ [] ≡ xs = append_nil xs in
    let a : length xs ≡ length xs + 0 = omega arith in
    let b : count_by (λ (p : Decided). p.1) xs ≡ count_by (λ (p : Decided). p.1) xs + 0 = omega arith in
    let c : count_by (λ (p : Decided). not p.1) xs ≡ count_by (λ (p : Decided). not p.1) xs + 0 = omega arith in
    ap (λ ps. record { due = length ps; accepted = count_by (λ (p : Decided). p.1) ps; dropped = count_by (λ (p : Decided). not p.1) ps }) none
    ∙ ap (λ n. record { due = n; accepted = count_by (λ (p : Decided). p.1) xs; dropped = count_by (λ (p : Decided). not p.1) xs }) a
    ∙ ap (λ n. record { due = length xs + 0; accepted = n; dropped = count_by (λ (p : Decided). not p.1) xs }) b
    ∙ ap (λ n. record { due = length xs + 0; accepted = count_by (λ (p : Decided). p.1) xs + 0; dropped = n }) c

module _ (o : Opening) (h : List Event) (d : List Bool) (image : List ℕ) (stamp : ℕ) (whole : length d ≡ length (due o h)) (all : List Row) (of_plans : plans_of all ≡ o.plans) (are : RowsAre o h d all) where
  pub due_at-rows : due_at o h (Trigger image stamp) ≡ due_plans all
  unfolding due_at
  due_at-rows = ap (filter (is_due o h)) (sym of_plans) ∙ due_at-is o h d image stamp all are

  -- what the decisions of the first rows add to the decided pairs
  pub decided-rows : decided o (h ++ Trigger image stamp ∷ []) (d ++ decisions all) ≡ decided o h d ++ new_pairs (length h) all
  decided-rows =
      decided-more o h (Trigger image stamp) d (decisions all) whole
      ∙ ap (λ ps. decided o h d ++ zip (map (λ (plan : ListPlan). (length h, plan.list)) ps) (decisions all)) due_at-rows
      ∙ ap (λ ps. decided o h d ++ ps) (zip-is (length h) all)

  pub track-more : (done rest : List Row) (r : Row) → all ≡ done ++ r ∷ rest → RiseFrom 0 (plans_of all) → (r.track ≡ track_of o h d r.plan) × (r.due ≡ is_due o h r.plan) × (0 < r.plan.prescaler) → track_of o (h ++ Trigger image stamp ∷ []) (d ++ decisions all) r.plan ≡ triggered r.plan r.track r.due r.accepted
  unfolding track_of next_after overload_pending triggered is_due
  track-more done rest r is rise kept =
      let l : ℕ = r.plan.list in
      let pair : Decided = ((length h, l), r.accepted) in
      let xs : List Decided = pairs_of l (decided o h d) in
      let here : pairs_of l (new_pairs (length h) all) ≡ cond (r.due) (pair ∷ []) [] =
      ap (λ rows. pairs_of l (new_pairs (length h) rows)) is ∙ pairs_here (length h) 0 done rest r (subst (λ (rows : List Row). RiseFrom 0 (plans_of rows)) is rise) in
      let pairs : pairs_of l (decided o (h ++ Trigger image stamp ∷ []) (d ++ decisions all)) ≡ xs ++ cond (r.due) (pair ∷ []) [] =
      ap (pairs_of l) decided-rows ∙ filter-append (is_of_list l) (decided o h d) (new_pairs (length h) all) ∙ ap (λ ps. xs ++ ps) here in
      let runs : Bool = runs_after o h l in
      let n : ℕ = triggers_since_start h l in
      let p : ℕ = r.plan.prescaler in
      let k : ℕ = count_by is_trigger h in
      let t : Track = record { running = runs; next = if runs then k + until_due p n else NEVER; pending = is_drop (last_or None xs); counts = counts_of xs } in
      let next : (if runs then k + 1 + until_due p (1 + n) else NEVER) ≡ (if r.due then t.next + p else t.next) =
      next-one runs k p n kept.2 ∙ ap (λ b. if b then t.next + p else t.next) (sym kept.1) in
      let step : record { running = runs; next = if runs then k + 1 + until_due p (1 + n) else NEVER; pending = is_drop (last_or None (xs ++ cond r.due (pair ∷ []) [])); counts = counts_of (xs ++ cond r.due (pair ∷ []) []) } ≡ triggered r.plan t r.due r.accepted =
      ap (λ x. record { running = runs; next = x; pending = is_drop (last_or None (xs ++ cond r.due (pair ∷ []) [])); counts = counts_of (xs ++ cond r.due (pair ∷ []) []) }) next
      ∙ ap (λ q. record { running = runs; next = if r.due then t.next + p else t.next; pending = q; counts = counts_of (xs ++ cond r.due (pair ∷ []) []) }) (pending-one r.due xs pair)
      ∙ ap (λ q. record { running = runs; next = if r.due then t.next + p else t.next; pending = if r.due then not r.accepted else t.pending; counts = q }) (counts-one r.due xs pair) in
      rw (runs-trigger o h image stamp l, since-trigger o h image stamp l, triggers-trigger o h image stamp, pairs) (step ∙ ap (λ (x : Track). triggered r.plan x r.due r.accepted) (sym kept.0))
