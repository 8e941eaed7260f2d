-- What is kept of a list after one event more.
use Rattle.std.proofs.Common.{◌≡◌, ℕ, ◌+◌, Bool, true, false, cond, not, List, [], ◌∷◌, ◌++◌, reverse, refl, ap, ◌∙◌, arith, nat_eq}
use Rattle.std.specs.Prelude.{find, take_while, count_by, Some}
use Rattle.std.proofs.lemmas.List.{reverse-append}
use Rattle.std.proofs.lemmas.List.Sums.{sum_by-cons, sum_by_push, take_while-cons}
use Rattle.copy_plan.specs.Config.{ListPlan}
use Rattle.xcp_base.specs.Lists.{has_list}
use Rattle.sampler.specs.History.{Event, Trigger, Start, Stop, Opening, due, due_at, runs_after, runs_since, triggers_since_start, is_trigger, is_start, is_start_or_stop}
use Rattle.sampler.specs.Decisions.{decided, pairs_of, overload_pending}
use Rattle.sampler.specs.Tracks.{track_of, next_after, until_due, counts_of}
use Rattle.sampler.specs.declared.track.TheConstants.{NEVER}
use Rattle.sampler.proofs.Histories.{due-more, append_nil}
use Rattle.sampler.proofs.NextDue.{until_due-zero}

back : (h : List Event) (e : Event) → reverse (h ++ e ∷ []) ≡ e ∷ reverse h
back h e = reverse-append h (e ∷ [])

module _ (o : Opening) (h : List Event) where
  pub runs-start : (k l : ℕ) → runs_after o (h ++ Start k ∷ []) l ≡ cond (nat_eq k l) true (runs_after o h l)
  unfolding runs_after
  runs-start k l = rw (back h (Start k)) (by_case (nat_eq k l))
    where
      by_case : (b : Bool) → runs_since (has_list o.running l) (cond b (Some (Start k)) (find (is_start_or_stop l) (reverse h))) ≡ cond b true (runs_since (has_list o.running l) (find (is_start_or_stop l) (reverse h)))
      by_case true = refl
      by_case false = refl

  pub runs-stop : (k l : ℕ) → runs_after o (h ++ Stop k ∷ []) l ≡ cond (nat_eq k l) false (runs_after o h l)
  unfolding runs_after
  runs-stop k l = rw (back h (Stop k)) (by_case (nat_eq k l))
    where
      by_case : (b : Bool) → runs_since (has_list o.running l) (cond b (Some (Stop k)) (find (is_start_or_stop l) (reverse h))) ≡ cond b false (runs_since (has_list o.running l) (find (is_start_or_stop l) (reverse h)))
      by_case true = refl
      by_case false = refl

  pub runs-trigger : (image : List ℕ) (stamp l : ℕ) → runs_after o (h ++ Trigger image stamp ∷ []) l ≡ runs_after o h l
  unfolding runs_after
  runs-trigger image stamp l = rw (back h (Trigger image stamp)) refl

  pub since-start : (k l : ℕ) → triggers_since_start (h ++ Start k ∷ []) l ≡ cond (nat_eq k l) 0 (triggers_since_start h l)
  unfolding triggers_since_start
  since-start k l = rw (back h (Start k), take_while-cons (λ e. not (is_start l e)) (Start k) (reverse h)) (by_case (nat_eq k l))
    where
      by_case : (b : Bool) → count_by is_trigger (cond (not b) (Start k ∷ take_while (λ e. not (is_start l e)) (reverse h)) []) ≡ cond b 0 (count_by is_trigger (take_while (λ e. not (is_start l e)) (reverse h)))
      by_case true = refl
      by_case false = sum_by-cons (λ e. cond (is_trigger e) 1 0) (Start k) (take_while (λ e. not (is_start l e)) (reverse h)) ∙ omega arith

  pub since-stop : (k l : ℕ) → triggers_since_start (h ++ Stop k ∷ []) l ≡ triggers_since_start h l
  unfolding triggers_since_start
  since-stop k l = rw (back h (Stop k), take_while-cons (λ e. not (is_start l e)) (Stop k) (reverse h)) (sum_by-cons (λ e. cond (is_trigger e) 1 0) (Stop k) (take_while (λ e. not (is_start l e)) (reverse h)) ∙ omega arith)

  pub since-trigger : (image : List ℕ) (stamp l : ℕ) → triggers_since_start (h ++ Trigger image stamp ∷ []) l ≡ 1 + triggers_since_start h l
  unfolding triggers_since_start
  since-trigger image stamp l = rw (back h (Trigger image stamp), take_while-cons (λ e. not (is_start l e)) (Trigger image stamp) (reverse h)) (sum_by-cons (λ e. cond (is_trigger e) 1 0) (Trigger image stamp) (take_while (λ e. not (is_start l e)) (reverse h)))

  -- a start and a stop add no pair
  pub due-start : (k : ℕ) → due o (h ++ Start k ∷ []) ≡ due o h
  unfolding due_at
  due-start k = due-more o h (Start k) ∙ append_nil (due o h)

  pub due-stop : (k : ℕ) → due o (h ++ Stop k ∷ []) ≡ due o h
  unfolding due_at
  due-stop k = due-more o h (Stop k) ∙ append_nil (due o h)

  pub triggers-start : (k : ℕ) → count_by is_trigger (h ++ Start k ∷ []) ≡ count_by is_trigger h
  triggers-start k = sum_by_push (λ e. cond (is_trigger e) 1 0) h (Start k) ∙ omega arith

  pub triggers-stop : (k : ℕ) → count_by is_trigger (h ++ Stop k ∷ []) ≡ count_by is_trigger h
  triggers-stop k = sum_by_push (λ e. cond (is_trigger e) 1 0) h (Stop k) ∙ omega arith

  pub triggers-trigger : (image : List ℕ) (stamp : ℕ) → count_by is_trigger (h ++ Trigger image stamp ∷ []) ≡ count_by is_trigger h + 1
  triggers-trigger image stamp = sum_by_push (λ e. cond (is_trigger e) 1 0) h (Trigger image stamp)

  -- another list's start leaves what is kept
  pub track-start_other : (d : List Bool) (k : ℕ) (plan : ListPlan) → nat_eq k plan.list ≡ false → track_of o (h ++ Start k ∷ []) d plan ≡ track_of o h d plan
  unfolding track_of next_after
  track-start_other d k plan other = rw (due-start k, runs-start k plan.list, since-start k plan.list, triggers-start k, other) refl

  -- a list that is started runs, and is due at the next trigger
  pub track-start_same : (d : List Bool) (k : ℕ) (plan : ListPlan) → nat_eq k plan.list ≡ true → track_of o (h ++ Start k ∷ []) d plan ≡ record (track_of o h d plan) { running = true; next = count_by is_trigger h }
  unfolding track_of next_after
  track-start_same d k plan same =
      let now : count_by is_trigger h + until_due plan.prescaler 0 ≡ count_by is_trigger h = ap (λ n. count_by is_trigger h + n) (until_due-zero plan.prescaler) ∙ omega arith in
      rw (due-start k, runs-start k plan.list, since-start k plan.list, triggers-start k, same) (ap (λ n. record { running = true; next = n; pending = overload_pending (decided o h d) plan.list; counts = counts_of (pairs_of plan.list (decided o h d)) }) now)

  pub track-stop_other : (d : List Bool) (k : ℕ) (plan : ListPlan) → nat_eq k plan.list ≡ false → track_of o (h ++ Stop k ∷ []) d plan ≡ track_of o h d plan
  unfolding track_of next_after
  track-stop_other d k plan other = rw (due-stop k, runs-stop k plan.list, since-stop k plan.list, triggers-stop k, other) refl

  pub track-stop_same : (d : List Bool) (k : ℕ) (plan : ListPlan) → nat_eq k plan.list ≡ true → track_of o (h ++ Stop k ∷ []) d plan ≡ record (track_of o h d plan) { running = false; next = NEVER }
  unfolding track_of next_after
  track-stop_same d k plan same = rw (due-stop k, runs-stop k plan.list, since-stop k plan.list, same) refl
