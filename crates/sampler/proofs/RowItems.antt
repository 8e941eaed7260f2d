-- The items of a trigger are those of its rows.
use Rattle.std.proofs.Common.{◌≡◌, ℕ, zero, suc, ◌+◌, ◌≤◌, Bool, true, false, cond, ◌&&◌, List, [], ◌∷◌, ◌++◌, length, get_or, take, map, refl, sym, ap, ◌∙◌, arith, subst, append_assoc, length-append}
use Rattle.std.specs.Prelude.{zip, count_by, Some, None, if◌then◌else◌, slice_get}
use Rattle.std.specs.Option.{option_map}
use Rattle.std.specs.List.{last_or, cons_option}
use Rattle.std.proofs.Math.Seq.{take-append-add, take-append_seam, get_or-append_seam}
use Rattle.std.proofs.lemmas.List.Elements.{filter-append}
use Rattle.std.proofs.lemmas.List.Sums.{sum_by-append, sum_by-cons}
use Rattle.std.proofs.lemmas.Option.{slice_get-map}
use Rattle.xcp_base.specs.declared.item.Item.{Item}
use Rattle.segments.specs.declared.segment.Segment.{Segment}
use Rattle.copy_plan.specs.Config.{ListPlan}
use Rattle.sampler.specs.History.{Event, Trigger, Opening, is_trigger, due, due_at, pairs_at}
use Rattle.sampler.specs.Decisions.{decided, pairs_of, is_of_list, is_drop, overload_pending, pending_of, overload_bit, accepted_in}
use Rattle.sampler.specs.Items.{sample, samples_from}
use Rattle.sampler.specs.Tracks.{track_of}
use Rattle.sampler.specs.State.{RiseFrom}
use Rattle.sampler.specs.Inner.Moments.{MomentParts}
use Rattle.sampler.specs.Inner.AtTrigger.{Row, item_of, row_items, row_count, rows_items, rows_count}
use Rattle.sampler.specs.declared.track.Track.{Track}
use Rattle.sampler.proofs.Histories.{append_nil, due-more, decided-more, length-zip_same, slice_get-behind}
use Rattle.sampler.proofs.Handled.{rows_count-one}
use Rattle.sampler.proofs.Rows.{due_plans, decisions, new_pairs, plans_of, RowsAre, due_at-rows, pairs_before, length-due_plans}

pub decisions-append : (a b : List Row) → decisions (a ++ b) ≡ decisions a ++ decisions b
decisions-append [] b = refl
decisions-append (r ∷ a) b =
    let later : decisions (a ++ b) ≡ decisions a ++ decisions b = decisions-append a b in
    elim (r.due) as (λ v. cond v (r.accepted ∷ decisions (a ++ b)) (decisions (a ++ b)) ≡ cond v (r.accepted ∷ decisions a) (decisions a) ++ decisions b) [ true ↦ ap (λ ds. r.accepted ∷ ds) later | false ↦ later ]

due_plans-append : (a b : List Row) → due_plans (a ++ b) ≡ due_plans a ++ due_plans b
due_plans-append [] b = refl
due_plans-append (r ∷ a) b =
    let later : due_plans (a ++ b) ≡ due_plans a ++ due_plans b = due_plans-append a b in
    elim (r.due) as (λ v. cond v (r.plan ∷ due_plans (a ++ b)) (due_plans (a ++ b)) ≡ cond v (r.plan ∷ due_plans a) (due_plans a) ++ due_plans b) [ true ↦ ap (λ ps. r.plan ∷ ps) later | false ↦ later ]

new_pairs-append : (i : ℕ) (a b : List Row) → new_pairs i (a ++ b) ≡ new_pairs i a ++ new_pairs i b
new_pairs-append i [] b = refl
new_pairs-append i (r ∷ a) b =
    let later : new_pairs i (a ++ b) ≡ new_pairs i a ++ new_pairs i b = new_pairs-append i a b in
    elim (r.due) as (λ v. cond v (((i, r.plan.list), r.accepted) ∷ new_pairs i (a ++ b)) (new_pairs i (a ++ b)) ≡ cond v (((i, r.plan.list), r.accepted) ∷ new_pairs i a) (new_pairs i a) ++ new_pairs i b) [ true ↦ ap (λ ps. ((i, r.plan.list), r.accepted) ∷ ps) later | false ↦ later ]

length-new_pairs : (i : ℕ) (rows : List Row) → length (new_pairs i rows) ≡ length (decisions rows)
length-new_pairs i [] = refl
length-new_pairs i (r ∷ rows) =
    let later : length (new_pairs i rows) ≡ length (decisions rows) = length-new_pairs i rows in
    elim (r.due) as (λ v. length (cond v (((i, r.plan.list), r.accepted) ∷ new_pairs i rows) (new_pairs i rows)) ≡ length (cond v (r.accepted ∷ decisions rows) (decisions rows))) [ true ↦ ap (λ n. suc n) later | false ↦ later ]

zip-nil : {X Y : Type 0} (xs : List X) → zip {X = Y} xs [] ≡ []
zip-nil [] = refl
zip-nil (x ∷ xs) = refl

-- decisions of the first rows alone decide their pairs alone
zip-part : (i : ℕ) (pre post : List Row) → zip (map (λ (plan : ListPlan). (i, plan.list)) (due_plans (pre ++ post))) (decisions pre) ≡ new_pairs i pre
zip-part i [] post = zip-nil (map (λ (plan : ListPlan). (i, plan.list)) (due_plans post))
zip-part i (r ∷ pre) post =
    let later : zip (map (λ (plan : ListPlan). (i, plan.list)) (due_plans (pre ++ post))) (decisions pre) ≡ new_pairs i pre = zip-part i pre post in
    elim (r.due) as (λ v. zip (map (λ (plan : ListPlan). (i, plan.list)) (cond v (r.plan ∷ due_plans (pre ++ post)) (due_plans (pre ++ post)))) (cond v (r.accepted ∷ decisions pre) (decisions pre)) ≡ cond v (((i, r.plan.list), r.accepted) ∷ new_pairs i pre) (new_pairs i pre)) [ true ↦ ap (λ ps. ((i, r.plan.list), r.accepted) ∷ ps) later | false ↦ later ]

-- the samples accepted are those that the decisions count
pub count-decisions : (rows : List Row) → accepted_in (decisions rows) ≡ rows_count rows
unfolding rows_count
count-decisions [] = refl
count-decisions (r ∷ rows) =
    let later : accepted_in (decisions rows) ≡ rows_count rows = count-decisions rows in
    elim (r.due) as (λ v. accepted_in (cond v (r.accepted ∷ decisions rows) (decisions rows)) ≡ (if v && r.accepted then 1 else 0) + rows_count rows) [
      | true ↦ sum_by-cons (λ b. cond b 1 0) r.accepted (decisions rows) ∙ ap (λ n. (if r.accepted then 1 else 0) + n) later
      | false ↦ later ∙ omega arith
    ]

length-one : (r : Row) → length (decisions (r ∷ [])) ≡ (if r.due then 1 else 0)
length-one r = elim (r.due) as (λ b. length (cond b (r.accepted ∷ []) []) ≡ (if b then 1 else 0)) [ true ↦ refl | false ↦ refl ]

get_or-past : (ds : List Bool) (j : ℕ) → length ds ≤ j → get_or ds j false ≡ false
get_or-past [] zero h = refl
get_or-past [] (suc j) h = refl
get_or-past (b ∷ ds) zero h = absurd (omega arith)
get_or-past (b ∷ ds) (suc j) h = get_or-past ds j (omega arith)

module _ (segments : List Segment) (o : Opening) (h : List Event) (d : List Bool) (image : List ℕ) (stamp : ℕ) (whole : length d ≡ length (due o h)) (all : List Row) (of_plans : plans_of all ≡ o.plans) (are : RowsAre o h d all) (rise : RiseFrom 0 (plans_of all)) where
  -- what the samples of the trigger have in common
  abbrev here : MomentParts
  here = record { channel = o.channel; trigger = count_by is_trigger h; segments = segments; image = image; stamp = stamp }

  -- the pairs decided by the first rows
  decided-part : (pre post : List Row) → all ≡ pre ++ post → decided o (h ++ Trigger image stamp ∷ []) (d ++ decisions pre) ≡ decided o h d ++ new_pairs (length h) pre
  decided-part pre post is =
      decided-more o h (Trigger image stamp) d (decisions pre) whole
      ∙ ap (λ ps. decided o h d ++ zip (map (λ (plan : ListPlan). (length h, plan.list)) ps) (decisions pre)) (due_at-rows o h d image stamp whole all of_plans are ∙ ap due_plans is)
      ∙ ap (λ ps. decided o h d ++ ps) (zip-part (length h) pre post)

  -- the pair of a row that is due
  pair-row : (done rest post : List Row) (r : Row) → all ≡ (done ++ r ∷ rest) ++ post → r.due ≡ true → slice_get (due o (h ++ Trigger image stamp ∷ [])) (length d + length (decisions done)) ≡ Some (length h, r.plan.list)
  pair-row done rest post r is due_r =
      let of_plan : ListPlan → ℕ × ℕ = λ plan. (length h, plan.list) in
      let m : ℕ = length (decisions done) in
      let later : List ListPlan = due_plans (rest ++ post) in
      let plans : due_at o h (Trigger image stamp) ≡ due_plans done ++ r.plan ∷ later =
      due_at-rows o h d image stamp whole all of_plans are
      ∙ ap due_plans (is ∙ append_assoc done (r ∷ rest) post)
      ∙ due_plans-append done (r ∷ (rest ++ post))
      ∙ ap (λ b. due_plans done ++ cond b (r.plan ∷ later) later) due_r in
      let n : m ≡ length (due_plans done) + 0 = omega (arith, length-due_plans done) in
      ap (λ pairs. slice_get pairs (length d + m)) (due-more o h (Trigger image stamp))
      ∙ ap (λ k. slice_get (due o h ++ pairs_at o (h, Trigger image stamp)) (k + m)) whole
      ∙ slice_get-behind (due o h) (pairs_at o (h, Trigger image stamp)) m
      ∙ slice_get-map of_plan (due_at o h (Trigger image stamp)) m
      ∙ ap (λ ps. option_map of_plan (slice_get ps m)) plans
      ∙ ap (λ k. option_map of_plan (slice_get (due_plans done ++ r.plan ∷ later) k)) n
      ∙ ap (option_map of_plan) (slice_get-behind (due_plans done) (r.plan ∷ later) 0)

  -- the sample of a row's pair, decided by the rows up to it and some more
  pub sample-row : (done rest post : List Row) (r : Row) → all ≡ (done ++ r ∷ rest) ++ post → r.due ≡ true → r.track ≡ track_of o h d r.plan → sample o (h ++ Trigger image stamp ∷ []) (d ++ decisions (done ++ r ∷ rest)) (length d + length (decisions done)) r.plan image stamp ≡ item_of here r.plan (accepted_in d + rows_count done) r.track.pending
  unfolding sample item_of overload_bit overload_pending track_of
  sample-row done rest post r is due_r kept =
      let j : ℕ = length d + length (decisions done) in
      let dd : List Bool = d ++ decisions (done ++ r ∷ rest) in
      let cut_d : take j dd ≡ d ++ decisions done =
      ap (λ ds. take j (d ++ ds)) (decisions-append done (r ∷ rest))
      ∙ take-append-add d (decisions done ++ decisions (r ∷ rest)) (length (decisions done))
      ∙ ap (λ ds. d ++ ds) (take-append_seam (decisions done) (decisions (r ∷ rest))) in
      let number : accepted_in (take j dd) ≡ accepted_in d + rows_count done =
      ap accepted_in cut_d ∙ sum_by-append (λ b. cond b 1 0) d (decisions done) ∙ ap (λ n. accepted_in d + n) (count-decisions done) in
      let n : length (decided o h d) ≡ length d = length-zip_same (due o h) d whole ∙ sym whole in
      let m : ℕ = length (decisions done) in
      let cut : take j (decided o (h ++ Trigger image stamp ∷ []) dd) ≡ decided o h d ++ new_pairs (length h) done =
      ap (take j) (decided-part (done ++ r ∷ rest) post is)
      ∙ ap (λ k. take (k + m) (decided o h d ++ new_pairs (length h) (done ++ r ∷ rest))) (sym n)
      ∙ take-append-add (decided o h d) (new_pairs (length h) (done ++ r ∷ rest)) m
      ∙ ap (λ ps. decided o h d ++ take m ps) (new_pairs-append (length h) done (r ∷ rest))
      ∙ ap (λ k. decided o h d ++ take k (new_pairs (length h) done ++ new_pairs (length h) (r ∷ rest))) (sym (length-new_pairs (length h) done))
      ∙ ap (λ ps. decided o h d ++ ps) (take-append_seam (new_pairs (length h) done) (new_pairs (length h) (r ∷ rest))) in
      let pairs : pairs_of r.plan.list (take j (decided o (h ++ Trigger image stamp ∷ []) dd)) ≡ pairs_of r.plan.list (decided o h d) =
      ap (pairs_of r.plan.list) cut ∙ filter-append (is_of_list r.plan.list) (decided o h d) (new_pairs (length h) done)
      ∙ ap (λ ps. pairs_of r.plan.list (decided o h d) ++ ps) (pairs_before (length h) 0 done (rest ++ post) r (subst (λ (rows : List Row). RiseFrom 0 (plans_of rows)) (is ∙ append_assoc done (r ∷ rest) post) rise))
      ∙ append_nil (pairs_of r.plan.list (decided o h d)) in
      let bit : pending_of (slice_get (due o (h ++ Trigger image stamp ∷ [])) j) (take j (decided o (h ++ Trigger image stamp ∷ []) dd)) ≡ r.track.pending =
      ap (λ pair. pending_of pair (take j (decided o (h ++ Trigger image stamp ∷ []) dd))) (pair-row done rest post r is due_r)
      ∙ ap (λ ps. is_drop (last_or None ps)) pairs ∙ sym (ap (λ (t : Track). t.pending) kept) in
      rw (number, bit) refl

  -- past the decisions nothing is sent
  samples-none : (dd : List Bool) (j : ℕ) (plans : List ListPlan) → length dd ≤ j → samples_from o (h ++ Trigger image stamp ∷ []) dd j plans image stamp ≡ []
  unfolding samples_from
  samples-none dd j [] past = refl
  samples-none dd j (plan ∷ plans) past =
      let later : samples_from o (h ++ Trigger image stamp ∷ []) dd (j + 1) plans image stamp ≡ [] = samples-none dd (j + 1) plans (omega arith) in
      rw (get_or-past dd j past) later

  -- a row's sample, before those of the rows behind it
  one-row : (done rest post : List Row) (r : Row) (ps : List ListPlan) (xs : List Item) → all ≡ (done ++ r ∷ rest) ++ post → r.track ≡ track_of o h d r.plan → (b : Bool) → r.due ≡ b →
      samples_from o (h ++ Trigger image stamp ∷ []) (d ++ decisions (done ++ r ∷ rest)) (length d + length (decisions done) + (if b then 1 else 0)) ps image stamp ≡ xs →
      samples_from o (h ++ Trigger image stamp ∷ []) (d ++ decisions (done ++ r ∷ rest)) (length d + length (decisions done)) (cond b (r.plan ∷ ps) ps) image stamp ≡ (if b && r.accepted then item_of here r.plan (accepted_in d + rows_count done) r.track.pending ∷ [] else []) ++ xs
  unfolding samples_from
  one-row done rest post r ps xs is kept false due_r later =
      let at : length d + length (decisions done) ≡ length d + length (decisions done) + 0 = omega arith in
      ap (λ j. samples_from o (h ++ Trigger image stamp ∷ []) (d ++ decisions (done ++ r ∷ rest)) j ps image stamp) at ∙ later
  one-row done rest post r ps xs is kept true due_r later =
      let j : ℕ = length d + length (decisions done) in
      let dd : List Bool = d ++ decisions (done ++ r ∷ rest) in
      let n : length (d ++ decisions done) ≡ j = length-append d (decisions done) in
      let split : dd ≡ (d ++ decisions done) ++ r.accepted ∷ decisions rest =
      ap (λ ds. d ++ ds) (decisions-append done (r ∷ rest) ∙ ap (λ b. decisions done ++ cond b (r.accepted ∷ decisions rest) (decisions rest)) due_r) ∙ sym (append_assoc d (decisions done) (r.accepted ∷ decisions rest)) in
      let took : get_or dd j false ≡ r.accepted =
      ap (λ k. get_or dd k false) (sym n) ∙ ap (λ ds. get_or ds (length (d ++ decisions done)) false) split ∙ get_or-append_seam (d ++ decisions done) r.accepted (decisions rest) false in
      rw (took, sample-row done rest post r is due_r kept)
      (elim (r.accepted) as (λ b. cons_option (if b then Some (item_of here r.plan (accepted_in d + rows_count done) r.track.pending) else None) (samples_from o (h ++ Trigger image stamp ∷ []) dd (j + 1) ps image stamp) ≡ (if b then item_of here r.plan (accepted_in d + rows_count done) r.track.pending ∷ [] else []) ++ xs) [
        | true ↦ ap (λ ys. item_of here r.plan (accepted_in d + rows_count done) r.track.pending ∷ ys) later
        | false ↦ later
      ])

  -- the samples of the pairs from the rows done on
  pub samples-rows : (done rest post : List Row) → all ≡ (done ++ rest) ++ post → RowsAre o h d rest → samples_from o (h ++ Trigger image stamp ∷ []) (d ++ decisions (done ++ rest)) (length d + length (decisions done)) (due_plans (rest ++ post)) image stamp ≡ rows_items here (accepted_in d + rows_count done) rest
  unfolding rows_items row_items
  samples-rows done [] post is kept =
      samples-none (d ++ decisions (done ++ [])) (length d + length (decisions done)) (due_plans post) (omega (arith, length-append d (decisions (done ++ [])), ap (λ rows. length (decisions rows)) (append_nil done)))
  samples-rows done (r ∷ rest) post is kept =
      let e : (done ++ r ∷ []) ++ rest ≡ done ++ r ∷ rest = append_assoc done (r ∷ []) rest in
      let ih : samples_from o (h ++ Trigger image stamp ∷ []) (d ++ decisions ((done ++ r ∷ []) ++ rest)) (length d + length (decisions (done ++ r ∷ []))) (due_plans (rest ++ post)) image stamp ≡ rows_items here (accepted_in d + rows_count (done ++ r ∷ [])) rest =
      samples-rows (done ++ r ∷ []) rest post (is ∙ ap (λ rows. rows ++ post) (sym e)) kept.1 in
      let at : length d + length (decisions done) + (if r.due then 1 else 0) ≡ length d + length (decisions (done ++ r ∷ [])) =
      omega (arith, ap length (decisions-append done (r ∷ [])), length-append (decisions done) (decisions (r ∷ [])), length-one r) in
      let number : accepted_in d + rows_count (done ++ r ∷ []) ≡ accepted_in d + rows_count done + row_count r = omega (arith, rows_count-one done r) in
      one-row done rest post r (due_plans (rest ++ post)) (rows_items here (accepted_in d + rows_count done + row_count r) rest) is kept.0.0 (r.due) refl
      (ap (λ j. samples_from o (h ++ Trigger image stamp ∷ []) (d ++ decisions (done ++ r ∷ rest)) j (due_plans (rest ++ post)) image stamp) at
      ∙ ap (λ rows. samples_from o (h ++ Trigger image stamp ∷ []) (d ++ decisions rows) (length d + length (decisions (done ++ r ∷ []))) (due_plans (rest ++ post)) image stamp) (sym e)
      ∙ ih
      ∙ ap (λ k. rows_items here k rest) number)
