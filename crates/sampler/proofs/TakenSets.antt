-- The sets of a trigger, by its rows.
use Rattle.std.proofs.Common.{◌≡◌, ℕ, ◌+◌, ◌<◌, Bool, true, false, cond, not, ◌&&◌, ◌||◌, List, [], ◌∷◌, ◌++◌, refl, sym, ap, ◌∙◌, arith, subst, nat_eq, append_assoc, inl, inr}
use Rattle.std.specs.List.{list_any}
use Rattle.std.proofs.lemmas.Bool.{ne_eqb}
use Rattle.std.proofs.lemmas.Bool.Decides.{nat_tests, eqb_tells}
use Rattle.copy_plan.specs.Config.{ListPlan}
use Rattle.xcp_base.specs.Lists.{has_list}
use Rattle.sampler.specs.Sets.{are_in}
use Rattle.sampler.specs.State.{RiseFrom}
use Rattle.sampler.specs.Inner.AtTrigger.{Row}
use Rattle.sampler.proofs.Rows.{due_plans, decisions, plans_of, rise_in}

and_false : (b : Bool) → (b && false) ≡ false
and_false true = refl
and_false false = refl

and_true : (b : Bool) → (b && true) ≡ b
and_true true = refl
and_true false = refl

or_false : (b : Bool) → (b || false) ≡ b
or_false true = refl
or_false false = refl

same_list : (l : ℕ) → nat_eq l l ≡ true
same_list l = grind (arith, nat_tests)

module _ (q : Row → Bool) where
  -- some row of list l passes
  abbrev any_of : ℕ → List Row → Bool
  any_of l rows = list_any (λ (r : Row). q r && nat_eq r.plan.list l) rows

  any-none : (l least : ℕ) (rows : List Row) → RiseFrom least (plans_of rows) → l < least → any_of l rows ≡ false
  any-none l least [] rise below = refl
  any-none l least (r ∷ rows) rise below =
      let later : any_of l rows ≡ false = any-none l (r.plan.list + 1) rows rise.1 (omega (arith, rise.0)) in
      rw (ne_eqb r.plan.list l (λ e. omega (arith, e, rise.0)), and_false) later

  pub any-here : (least : ℕ) (done rest : List Row) (r : Row) → RiseFrom least (plans_of (done ++ r ∷ rest)) → any_of r.plan.list (done ++ r ∷ rest) ≡ q r
  any-here least [] rest r rise =
      rw (same_list r.plan.list, and_true, any-none r.plan.list (r.plan.list + 1) rest rise.1 (omega arith)) (or_false (q r))
  any-here least (x ∷ done) rest r rise =
      let later : any_of r.plan.list (done ++ r ∷ rest) ≡ q r = any-here (x.plan.list + 1) done rest r rise.1 in
      rw (ne_eqb x.plan.list r.plan.list (λ e. omega (arith, e, rise_in (x.plan.list + 1) done rest r rise.1)), and_false) later

-- the due plans have the lists of the due rows
pub any-due_plans : (l : ℕ) (rows : List Row) → list_any (λ (r : Row). r.due && nat_eq r.plan.list l) rows ≡ list_any (λ (plan : ListPlan). nat_eq plan.list l) (due_plans rows)
any-due_plans l [] = refl
any-due_plans l (r ∷ rows) =
    let later : list_any (λ (x : Row). x.due && nat_eq x.plan.list l) rows ≡ list_any (λ (plan : ListPlan). nat_eq plan.list l) (due_plans rows) = any-due_plans l rows in
    elim (r.due) as (λ b. ((b && nat_eq r.plan.list l) || list_any (λ (x : Row). x.due && nat_eq x.plan.list l) rows) ≡ list_any (λ (plan : ListPlan). nat_eq plan.list l) (cond b (r.plan ∷ due_plans rows) (due_plans rows))) [ true ↦ ap (λ b. nat_eq r.plan.list l || b) later | false ↦ later ]

abbrev due_row : Row → Bool
due_row r = r.due

abbrev accepted_row : Row → Bool
accepted_row r = r.due && r.accepted

abbrev dropped_row : Row → Bool
dropped_row r = r.due && not r.accepted

-- an accepted list is due
pub accepted-due : (l : ℕ) (rows : List Row) (least : ℕ) → RiseFrom least (plans_of rows) → any_of accepted_row l rows ≡ (any_of due_row l rows && any_of accepted_row l rows)
accepted-due l [] least rise = refl
accepted-due l (r ∷ rows) least rise =
    elim (eqb_tells r.plan.list l) [
      | inl w ↦
          let below : l < r.plan.list + 1 = omega (arith, w.1) in
          rw (w.0, any-none accepted_row l (r.plan.list + 1) rows rise.1 below, any-none due_row l (r.plan.list + 1) rows rise.1 below) (two (r.due) r.accepted)
      | inr w ↦ rw w.0 (simp and_false (accepted-due l rows (r.plan.list + 1) rise.1))
    ]
  where
    two : (a b : Bool) → (((a && b) && true) || false) ≡ (((a && true) || false) && (((a && b) && true) || false))
    two true true = refl
    two true false = refl
    two false b = refl

-- a dropped list is due and not accepted
pub dropped-due : (l : ℕ) (rows : List Row) (least : ℕ) → RiseFrom least (plans_of rows) → any_of dropped_row l rows ≡ (any_of due_row l rows && not (any_of accepted_row l rows))
dropped-due l [] least rise = refl
dropped-due l (r ∷ rows) least rise =
    elim (eqb_tells r.plan.list l) [
      | inl w ↦
          let below : l < r.plan.list + 1 = omega (arith, w.1) in
          rw (w.0, any-none accepted_row l (r.plan.list + 1) rows rise.1 below, any-none due_row l (r.plan.list + 1) rows rise.1 below, any-none dropped_row l (r.plan.list + 1) rows rise.1 below) (two (r.due) r.accepted)
      | inr w ↦ rw w.0 (simp and_false (dropped-due l rows (r.plan.list + 1) rise.1))
    ]
  where
    two : (a b : Bool) → (((a && not b) && true) || false) ≡ (((a && true) || false) && not (((a && b) && true) || false))
    two true true = refl
    two true false = refl
    two false b = refl

one : (b : Bool) (r : Row) (set : ℕ) (rest : List Row) → has_list set r.plan.list ≡ (b && r.accepted) → are_in set (due_plans rest) ≡ decisions rest → are_in set (cond b (r.plan ∷ due_plans rest) (due_plans rest)) ≡ cond b (r.accepted ∷ decisions rest) (decisions rest)
one true r set rest here later = ap (λ x. x ∷ are_in set (due_plans rest)) here ∙ ap (λ xs. r.accepted ∷ xs) later
one false r set rest here later = later

-- the decisions, read off the accepted set
pub decisions-are_in : (set : ℕ) (all done rest : List Row) → ((l : ℕ) → has_list set l ≡ any_of accepted_row l all) → RiseFrom 0 (plans_of all) → all ≡ done ++ rest → are_in set (due_plans rest) ≡ decisions rest
decisions-are_in set all done [] are rise is = refl
decisions-are_in set all done (r ∷ rest) are rise is =
    let later : are_in set (due_plans rest) ≡ decisions rest = decisions-are_in set all (done ++ r ∷ []) rest are rise (is ∙ sym (append_assoc done (r ∷ []) rest)) in
    let here : has_list set r.plan.list ≡ (r.due && r.accepted) =
    are r.plan.list ∙ ap (any_of accepted_row r.plan.list) is ∙ any-here accepted_row 0 done rest r (subst (λ (rows : List Row). RiseFrom 0 (plans_of rows)) is rise) in
    one (r.due) r set rest here later
