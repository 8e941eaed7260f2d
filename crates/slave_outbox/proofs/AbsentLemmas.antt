-- A list that the event channel doesn't have: nothing of it was due, so nothing was dropped or written.
use Rattle.std.proofs.Common.{◌≡◌, ℕ, Bool, true, false, cond, ◌||◌, nat_eq, List, [], ◌∷◌, length, map, filter, refl, sym, ap, ◌∙◌, arith}
use Rattle.std.proofs.lemmas.Bool.{false≢true}
use Rattle.std.specs.Prelude.{count_by, flat_map, if◌then◌else◌, Option, Some, None}
use Rattle.std.specs.List.{list_any}
use mathlib.Core.List.{IsPrefix}
use Rattle.std.proofs.lemmas.List.Concat.{flat_map-cons}
use Rattle.std.proofs.lemmas.List.Sums.{sum_by-append, sum_by-cons}
use Rattle.std.proofs.lemmas.Option.{none-some}
use Rattle.copy_plan.specs.Config.{ListPlan}
use Rattle.sampler.specs.Decisions.{pairs_of}
use Rattle.sampler.specs.History.{Event, Opening, Start, Stop, Trigger, due, due_at, is_due, is_list_of, pairs_at, with_past}
use Rattle.sampler.specs.Past.{Past}
use Rattle.sampler.specs.Tracks.{counts_after, counts_of}
use Rattle.sampler.specs.declared.counts.ListCounts.{ListCounts}
use Rattle.daq_engine.specs.Order.{items_of}
use Rattle.daq_engine.specs.Overload.{decided_of}
use Rattle.slave_outbox.specs.Accounts.{HasPlans, IsLineOf, no_line}
use Rattle.slave_outbox.specs.Deeds.{Deed, taken}
use Rattle.slave_outbox.proofs.AccountLemmas.{line-stands}

or_none : (a b : Bool) → (a || b) ≡ false → (a ≡ false) × (b ≡ false)
or_none true b none = absurd (false≢true (sym none))
or_none false b none = (refl, none)

-- none of the plans is of list l, so none of those that pass a test is
none_at : (l place : ℕ) (test : ListPlan → Bool) (plans : List ListPlan) → list_any (λ (plan : ListPlan). nat_eq plan.list l) plans ≡ false
    → count_by (λ (pair : ℕ × ℕ). nat_eq pair.1 l) (map (λ (plan : ListPlan). (place, plan.list)) (filter test plans)) ≡ 0
none_at l place test [] none = refl
none_at l place test (plan ∷ plans) none =
    let both = or_none (nat_eq plan.list l) (list_any (λ (p : ListPlan). nat_eq p.list l) plans) none in
    let rest : List (ℕ × ℕ) = map (λ (p : ListPlan). (place, p.list)) (filter test plans) in
    let not_this : ◌≡◌ {A = ℕ} (cond (nat_eq plan.list l) 1 0) 0 = ap (λ b. cond b 1 0) both.0 in
    let more = none_at l place test plans both.1 in
    elim (test plan) as (λ b. count_by (λ (pair : ℕ × ℕ). nat_eq pair.1 l) (map (λ (p : ListPlan). (place, p.list)) (cond b (plan ∷ filter test plans) (filter test plans))) ≡ 0) [
      | true ↦ omega (arith, sum_by-cons (λ (pair : ℕ × ℕ). cond (nat_eq pair.1 l) 1 0) (place, plan.list) rest, not_this, more)
      | false ↦ more
    ]

none_due_at : (l : ℕ) (opening : Opening) (before : List Event) (event : Event) → is_list_of opening l ≡ false
    → count_by (λ (pair : ℕ × ℕ). nat_eq pair.1 l) (pairs_at opening (before, event)) ≡ 0
unfolding due_at
none_due_at l opening before (Trigger image stamp) none = none_at l (length before) (is_due opening before) opening.plans none
none_due_at l opening before (Start k) none = refl
none_due_at l opening before (Stop k) none = refl

none_among : (l : ℕ) (opening : Opening) (ats : List (List Event × Event)) → is_list_of opening l ≡ false
    → count_by (λ (pair : ℕ × ℕ). nat_eq pair.1 l) (flat_map (pairs_at opening) ats) ≡ 0
none_among l opening [] none = refl
none_among l opening ((before, event) ∷ ats) none =
    let split =
    ap (count_by (λ (pair : ℕ × ℕ). nat_eq pair.1 l)) (flat_map-cons (pairs_at opening) (before, event) ats)
    ∙ sum_by-append (λ (pair : ℕ × ℕ). cond (nat_eq pair.1 l) 1 0) (pairs_at opening (before, event)) (flat_map (pairs_at opening) ats) in
    omega (arith, split, none_due_at l opening before event none, none_among l opening ats none)

none_due : (l : ℕ) (opening : Opening) (h : List Event) → is_list_of opening l ≡ false → count_by (λ (pair : ℕ × ℕ). nat_eq pair.1 l) (due opening h) ≡ 0
unfolding due
none_due l opening h none = none_among l opening (with_past [] h) none

-- a list without counts is none of the channel's
not_there : (b : Bool) (counts : ListCounts) (o : Option ListCounts) → o ≡ None → o ≡ (if b then Some counts else None) → b ≡ false
not_there true counts o is after = absurd (none-some counts (sym is ∙ after))
not_there false counts o is after = refl

-- so its line is of zeros
pub no-line-stands : (past : Past) (deeds : List Deed) (l : ℕ) (o : Option ListCounts) → o ≡ None → o ≡ counts_after past l → HasPlans past
    → length past.decisions ≡ length (due past.opening past.history) → IsPrefix (taken deeds) (items_of past) → IsLineOf past deeds l (no_line l)
unfolding counts_of
no-line-stands past deeds l o is after plans decided_all front =
    let none = none_due l past.opening past.history (not_there (is_list_of past.opening l) (counts_of (pairs_of l (decided_of past))) o is after) in
    let stands = line-stands past deeds l plans decided_all front in
    let sums = stands.adds_up in
    let all_due = stands.due_is in
    let dropped = stands.dropped in
    let written = stands.written in
    let left = stands.left in
    record {
      of_list = refl;
      due_is = sym none;
      dropped = omega (arith, none, sums, all_due);
      written = omega (arith, none, sums, all_due);
      left = omega (arith, none, sums, all_due, left);
      adds_up = refl;
    }
