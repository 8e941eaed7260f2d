-- How many items a channel sends.
use Rattle.std.proofs.Common.{ℕ, suc, ◌+◌, ◌*◌, ◌≤◌, Bool, true, false, cond, List, [], ◌∷◌, ◌++◌, length, ap, arith, length-append}
use Rattle.std.specs.Prelude.{Option, Some, None, filter, filter_map, flat_map, slice_index_or, if◌then◌else◌, nat_eq}
use Rattle.std.specs.List.{cons_option}
use Rattle.std.proofs.lemmas.List.{length-map}
use Rattle.std.proofs.lemmas.List.FromFn.{length-range_with_len}
use Rattle.std.proofs.lemmas.List.Sums.{count_by-le-length, length-filter}
use Rattle.xcp_base.specs.declared.limits.TheConstants.{MAX_LISTS}
use Rattle.copy_plan.specs.Config.{ListPlan}
use Rattle.daq_store.specs.Calls.{numbers_below}
use Rattle.daq_store.specs.Standing.{StoreState}
use Rattle.run_file.specs.declared.limits.TheConstants.{MAX_STEPS}
use Rattle.sampler.specs.History.{Event, Trigger, Start, Stop, Opening, due, due_at, is_due, with_past}
use Rattle.sampler.specs.Items.{items, items_at, sample, samples_from}
use Rattle.sampler.specs.Past.{Past}
use Rattle.daq_engine.specs.Openings.{IsOpeningOf, is_ready_on, list_plan}
use Rattle.daq_run.specs.Answers.{Answered, AreAnswered, Setting, accepted_event}
use Rattle.daq_run.specs.StepRuns.{sent_in}
use Rattle.daq_run.specs.Steps.{Ask, Pump, RunStep, asked_at, asked_of}
use Rattle.daq_run.proofs.StepLemmas.{length-parts}

-- at most one for each
few_mapped : {X Y : Type 0} (f : X → Option Y) (xs : List X) → length (filter_map f xs) ≤ length xs
few_mapped f [] = omega arith
few_mapped f (x ∷ xs) =
    let later = few_mapped f xs in
    elim (f x) as (λ y. length (cons_option y (filter_map f xs)) ≤ suc (length xs)) [ None ↦ omega (arith, later) | Some y ↦ omega (arith, later) ]

-- a trigger sends at most one sample for each list
few_samples : (o : Opening) (h : List Event) (d : List Bool) (j : ℕ) (plans : List ListPlan) (image : List ℕ) (stamp : ℕ) → length (samples_from o h d j plans image stamp) ≤ length plans
unfolding samples_from
few_samples o h d j [] image stamp = omega arith
few_samples o h d j (p ∷ ps) image stamp =
    let later = few_samples o h d (j + 1) ps image stamp in
    elim (slice_index_or d j false) as (λ b. length (cons_option (if b then Some (sample o h d j p image stamp) else None) (samples_from o h d (j + 1) ps image stamp)) ≤ suc (length ps)) [
      | true ↦ omega (arith, later)
      | false ↦ omega (arith, later)
    ]

-- an event sends at most so many items
few_at : (o : Opening) (h past : List Event) (d : List Bool) (e : Event) → length o.plans ≤ MAX_LISTS → length (items_at o h d (past, e)) ≤ MAX_LISTS
unfolding items_at due_at
few_at o h past d (Trigger image stamp) few =
    omega (arith, few, few_samples o h d (length (due o past)) (due_at o past (Trigger image stamp)) image stamp, ap (λ n. n) (length-filter (is_due o past) o.plans), count_by-le-length (is_due o past) o.plans)
few_at o h past d (Start l) few = omega arith
few_at o h past d (Stop l) few = omega arith

few_from : (o : Opening) (h past es : List Event) (d : List Bool) → length o.plans ≤ MAX_LISTS → length (flat_map (items_at o h d) (with_past past es)) ≤ MAX_LISTS * length es
unfolding with_past
few_from o h past [] d few = omega arith
few_from o h past (e ∷ es) d few =
    omega (arith, few_at o h past d e few, few_from o h (past ++ e ∷ []) es d few, length-append (items_at o h d (past, e)) (flat_map (items_at o h d) (with_past (past ++ e ∷ []) es)))

-- and so does a history
few_items : (o : Opening) (h : List Event) (d : List Bool) → length o.plans ≤ MAX_LISTS → length (items o h d) ≤ MAX_LISTS * length h
unfolding items
few_items o h d few = few_from o h [] h d few

one_asked : (c : ℕ) (step : RunStep) → length (asked_at c step) ≤ 1
one_asked c (Ask k e) = elim (nat_eq c k) as (λ b. length (cond b (e ∷ []) []) ≤ 1) [ true ↦ omega arith | false ↦ omega arith ]
one_asked c Pump = omega arith

-- a history is no longer than the steps
few_accepted : (s : Setting) (c : ℕ) (steps : List RunStep) (told : List Answered) (past : Past) → AreAnswered s (asked_of c steps) told past → length past.history ≤ length steps
few_accepted s c steps told past a =
    let asked = length-parts (asked_at c) 1 steps (λ i step at. one_asked c step) in
    omega (arith, ap length a.history, few_mapped accepted_event told, ap length a.asks, length-map told (λ (x : Answered). x.0), asked)

-- the lists of one event channel are some of the store's
few_plans : (s : StoreState) (c : ℕ) (o : Opening) → IsOpeningOf s c o → length s.lists ≤ MAX_LISTS → length o.plans ≤ MAX_LISTS
few_plans s c o is few =
    omega (arith, few, ap length is.plans, length-map (filter (is_ready_on s c) (numbers_below (length s.lists))) (list_plan s), length-filter (is_ready_on s c) (numbers_below (length s.lists)), count_by-le-length (is_ready_on s c) (numbers_below (length s.lists)), length-range_with_len 0 (length s.lists))

-- so many items at most were sent by a channel of a run
pub few_sent : (s : Setting) (c : ℕ) (steps : List RunStep) (told : List Answered) (past : Past) (store : StoreState)
    → AreAnswered s (asked_of c steps) told past → IsOpeningOf store c past.opening → length store.lists ≤ MAX_LISTS → length steps ≤ MAX_STEPS
    → length (sent_in past) ≤ 16000000
few_sent s c steps told past store a o lists few =
    let plans = few_plans store c past.opening o lists in
    omega (arith, few_items past.opening past.history past.decisions plans, few_accepted s c steps told past a, few)
