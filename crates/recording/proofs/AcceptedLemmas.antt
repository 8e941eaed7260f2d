-- The samples of a list among a channel's items are those that were accepted of it, as a reader gives them back.
use Rattle.std.proofs.Common.{◌≡◌, ℕ, zero, suc, ◌+◌, ◌≤◌, ◌==◌, ◌&&◌, inl, inr, Bool, true, false, cond, List, [], ◌∷◌, ◌++◌, length, map, drop, get_or, Option, Some, None, refl, sym, ap, ◌∙◌, arith, length-append, drop-cons, append_assoc}
use Rattle.std.specs.Prelude.{if◌then◌else◌, flat_map, slice_get, zip}
use Rattle.std.specs.List.{AllByRecursion, cons_option}
use Rattle.std.proofs.lemmas.Bool.Decides.{eqb_tells, leb_tells}
use Rattle.std.proofs.lemmas.Grind.{flat_map-append}
use Rattle.std.proofs.lemmas.List.{map-append}
use Rattle.xcp_base.specs.declared.item.Item.{Item}
use Rattle.xcp_base.specs.declared.item.Item.TheVariants.{Sample, Marker}
use Rattle.xcp_base.specs.Samples.{SampleParts}
use Rattle.segments.specs.Image.{image_len}
use Rattle.copy_plan.specs.Config.{IsPlan, ListPlan}
use Rattle.copy_plan.specs.Packet.{packets}
use Rattle.sampler.specs.Decisions.{Decided, decided, overload_bit}
use Rattle.sampler.specs.History.{Event, Opening, Start, Stop, Trigger, due, due_at, is_due, pairs_at, with_past}
use Rattle.sampler.specs.Items.{items, items_at, marker_of, sample, samples_from}
use Rattle.sampler.specs.Past.{Past}
use Rattle.sampler.proofs.Histories.{due-more, length-map_of}
use Rattle.transmitter.specs.Items.{samples}
use Rattle.daq_engine.specs.Merges.{samples_of}
use Rattle.daq_engine.specs.Order.{items_of}
use Rattle.daq_engine.specs.Overload.{decided_of}
use Rattle.daq_engine.proofs.PidLemmas.{all-filter}
use Rattle.daq_reader.specs.Recorded.{IsRecorded, Recorded, packets_of}
use Rattle.daq_reader.proofs.WrittenLemmas.{written_is_read}
use Rattle.recording.specs.Accepted.{made_at, recorded_at, recorded_from, recorded_of}

drop_all : (d : List Bool) (j : ℕ) → length d ≤ j → drop j d ≡ []
drop_all [] zero h = refl
drop_all [] (suc j) h = refl
drop_all (b ∷ d) zero h = absurd (omega arith)
drop_all (b ∷ d) (suc j) h = drop_all d j (omega arith)

past_end : (d : List Bool) (j : ℕ) → length d ≤ j → get_or d j false ≡ false
past_end [] zero h = refl
past_end [] (suc j) h = refl
past_end (b ∷ d) zero h = absurd (omega arith)
past_end (b ∷ d) (suc j) h = past_end d j (omega arith)

zip_none : (xs : List (ℕ × ℕ)) → zip {X = Bool} xs [] ≡ []
zip_none [] = refl
zip_none (x ∷ xs) = refl

at_seam : (past es : List Event) (e : Event) → slice_get (past ++ e ∷ es) (length past) ≡ Some e
at_seam [] es e = refl
at_seam (x ∷ past) es e = at_seam past es e

-- the values of the accepted pairs among these, one behind another: each by its number, from j on, and the pair
abbrev pub values_from : {V : Type 0} → (ℕ → ℕ × ℕ → List V) → ℕ → List Decided → List V
values_from val j [] = []
values_from val j (pair ∷ pairs) = cond pair.1 (val j pair.0) [] ++ values_from val (j + 1) pairs

-- what is read off each item is the value of its pair
module _ {V : Type 0} (o : Opening) (h : List Event) (d : List Bool) (Q : ListPlan → Type 0) (val : ℕ → ℕ × ℕ → List V) (look : Item → List V)
    (one : (j place stamp : ℕ) (image : List ℕ) (plan : ListPlan) → Q plan → slice_get h place ≡ Some (Trigger image stamp) → look (sample o h d j plan image stamp) ≡ val j (place, plan.list))
    (none : (l : ℕ) → look (marker_of o.channel l) ≡ []) (each : AllByRecursion Q o.plans) where
  abbrev values : ℕ → List (ℕ × ℕ) → List V
  values j pairs = values_from val j (zip pairs (drop j d))

  no_values : (j : ℕ) (pairs : List (ℕ × ℕ)) → length d ≤ j → values j pairs ≡ []
  no_values j pairs e = ap (λ ds. values_from val j (zip pairs ds)) (drop_all d j e) ∙ ap (λ ps. values_from val j ps) (zip_none pairs)

  counted : (past : List Event) (e : Event) → length (due o (past ++ e ∷ [])) ≡ length (due o past) + length (due_at o past e)
  counted past e = ap length (due-more o past e) ∙ length-append (due o past) (pairs_at o (past, e)) ∙ ap (λ n. length (due o past) + n) (length-map_of {Y = ℕ × ℕ} (λ (plan : ListPlan). (length past, plan.list)) (due_at o past e))

  values_plans : (place j : ℕ) (plans : List ListPlan) (rest : List (ℕ × ℕ)) (image : List ℕ) (stamp : ℕ) → slice_get h place ≡ Some (Trigger image stamp) → AllByRecursion Q plans →
      values j (map (λ (plan : ListPlan). (place, plan.list)) plans ++ rest) ≡ flat_map look (samples_from o h d j plans image stamp) ++ values (j + length plans) rest
  unfolding samples_from
  values_plans place j [] rest image stamp there all = ap (λ k. values k rest) (omega arith)
  values_plans place j (plan ∷ plans) rest image stamp there all =
      let pairs = map (λ (p : ListPlan). (place, p.list)) plans ++ rest in
      let more = samples_from o h d (j + 1) plans image stamp in
      let this = sample o h d j plan image stamp in
      let behind = values (j + length (plan ∷ plans)) rest in
      let later = values_plans place (j + 1) plans rest image stamp there all.1 in
      let count : j + 1 + length plans ≡ j + length (plan ∷ plans) = omega arith in
      let next : values (j + 1) pairs ≡ flat_map look more ++ behind = later ∙ ap (λ k. flat_map look more ++ values k rest) count in
      elim (leb_tells (length d) j) [
        | inl w ↦
            no_values j ((place, plan.list) ∷ pairs) w.1
            ∙ sym (no_values (j + 1) pairs (omega (arith, w.1)))
            ∙ next
            ∙ ap (λ b. flat_map look (cons_option (if b then Some this else None) more) ++ behind) (sym (past_end d j w.1))
        | inr w ↦
            let next_number : suc j ≡ j + 1 = omega arith in
            let cut : drop j d ≡ get_or d j false ∷ drop (j + 1) d = drop-cons d j false w.1 ∙ ap (λ k. get_or d j false ∷ drop k d) next_number in
            ap (λ ds. values_from val j (zip ((place, plan.list) ∷ pairs) ds)) cut
            ∙ elim (get_or d j false) as (λ b. values_from val j (((place, plan.list), b) ∷ zip pairs (drop (j + 1) d)) ≡ flat_map look (cons_option (if b then Some this else None) more) ++ behind) [
              | true ↦
                  ap (λ vs. val j (place, plan.list) ++ vs) next
                  ∙ ap (λ vs. vs ++ (flat_map look more ++ behind)) (sym (one j place stamp image plan all.0 there))
                  ∙ sym (append_assoc (look this) (flat_map look more) behind)
              | false ↦ next
            ]
      ]

  values_event : (past : List Event) (e : Event) (rest : List (ℕ × ℕ)) → slice_get h (length past) ≡ Some e →
      values (length (due o past)) (pairs_at o (past, e) ++ rest) ≡ flat_map look (items_at o h d (past, e)) ++ values (length (due o (past ++ e ∷ []))) rest
  unfolding items_at due_at
  values_event past (Trigger image stamp) rest there =
      values_plans (length past) (length (due o past)) (due_at o past (Trigger image stamp)) rest image stamp there (all-filter Q (λ plan. is_due o past plan) o.plans each)
      ∙ ap (λ k. flat_map look (samples_from o h d (length (due o past)) (due_at o past (Trigger image stamp)) image stamp) ++ values k rest) (sym (counted past (Trigger image stamp)))
  values_event past (Start l) rest there = ap (λ k. values k rest) (sym (counted past (Start l) ∙ omega arith))
  values_event past (Stop l) rest there =
      ap (λ k. values k rest) (sym (counted past (Stop l) ∙ omega arith))
      ∙ ap (λ vs. (vs ++ []) ++ values (length (due o (past ++ Stop l ∷ []))) rest) (sym (none l))

  values_events : (past es : List Event) → h ≡ past ++ es → values (length (due o past)) (flat_map (pairs_at o) (with_past past es)) ≡ flat_map look (flat_map (items_at o h d) (with_past past es))
  unfolding with_past
  values_events past [] is = refl
  values_events past (e ∷ es) is =
      let pairs = flat_map (pairs_at o) (with_past (past ++ e ∷ []) es) in
      let more = flat_map (items_at o h d) (with_past (past ++ e ∷ []) es) in
      values_event past e pairs (ap (λ xs. slice_get xs (length past)) is ∙ at_seam past es e)
      ∙ ap (λ vs. flat_map look (items_at o h d (past, e)) ++ vs) (values_events (past ++ e ∷ []) es (is ∙ sym (append_assoc past (e ∷ []) es)))
      ∙ sym (flat_map-append look (items_at o h d (past, e)) more)

  -- the values of a channel's accepted pairs are what is read off its items
  pub values_all : values_from val 0 (decided o h d) ≡ flat_map look (items o h d)
  unfolding items due with_past
  values_all = values_events [] h refl

-- the packets of an item, where it is a sample of list l
abbrev packets_at : ℕ → Item → List (List (List ℕ))
packets_at l (Sample s) = cond (s.list == l) (s.packets ∷ []) []
packets_at l (Marker m) = []

abbrev pub each_packets : List SampleParts → List (List (List ℕ))
each_packets ss = map (λ (s : SampleParts). s.packets) ss

looked : (l : ℕ) (xs : List Item) → flat_map (packets_at l) xs ≡ each_packets (samples_of l (samples xs))
looked l [] = refl
looked l (Sample s ∷ xs) = elim (s.list == l) as (λ b. cond b (s.packets ∷ []) [] ++ flat_map (packets_at l) xs ≡ each_packets (cond b (s ∷ samples_of l (samples xs)) (samples_of l (samples xs)))) [
  | true ↦ ap (λ qs. s.packets ∷ qs) (looked l xs)
  | false ↦ looked l xs
]
looked l (Marker m ∷ xs) = looked l xs

module _ (past : Past) (plan : ListPlan) (ready : IsPlan plan) where
  -- the packets of the sample of a pair, where it is of the list
  abbrev value : ℕ → ℕ × ℕ → List (List (List ℕ))
  value j pair = cond (pair.1 == plan.list) (map (packets_of plan) (recorded_at past plan j pair.0)) []

  valued : (j : ℕ) (pairs : List Decided) → map (packets_of plan) (recorded_from past plan j pairs) ≡ values_from value j pairs
  valued j [] = refl
  valued j (pair ∷ pairs) =
      map-append (packets_of plan) (cond (pair.1 && pair.0.1 == plan.list) (recorded_at past plan j pair.0.0) []) (recorded_from past plan (j + 1) pairs)
      ∙ ap (λ qs. qs ++ map (packets_of plan) (recorded_from past plan (j + 1) pairs)) (same (pair.1) (pair.0.1 == plan.list) (recorded_at past plan j pair.0.0))
      ∙ ap (λ qs. cond pair.1 (value j pair.0) [] ++ qs) (valued (j + 1) pairs)
    where
      same : (a b : Bool) (rs : List Recorded) → map (packets_of plan) (cond (a && b) rs []) ≡ cond a (cond b (map (packets_of plan) rs) []) []
      same true true rs = refl
      same true false rs = refl
      same false b rs = refl

  -- a plan of the channel beside this one: a list has one plan, and each image the length that it says
  pub record IsBeside (r : ListPlan) : Type 0 where
    pub mine : r.list ≡ plan.list → r ≡ plan

  module _ (images : (place stamp : ℕ) (image : List ℕ) → slice_get past.history place ≡ Some (Trigger image stamp) → length image ≡ image_len plan.segments) where
    one_value : (j place stamp : ℕ) (image : List ℕ) (r : ListPlan) → IsBeside r → slice_get past.history place ≡ Some (Trigger image stamp)
        → packets_at plan.list (sample past.opening past.history past.decisions j r image stamp) ≡ value j (place, r.list)
    unfolding sample
    one_value j place stamp image r beside there =
        let bit : Bool = overload_bit past.opening past.history past.decisions j in
        let size : length image ≡ image_len plan.segments = images place stamp image there in
        elim (eqb_tells r.list plan.list) [
          | inl w ↦
              ap (λ (b : Bool). cond b (packets r image stamp bit ∷ []) []) w.0
              ∙ ap (λ (p : ListPlan). packets p image stamp bit ∷ []) (beside.mine w.1)
              ∙ ap (λ qs. qs ∷ []) (written_is_read plan image stamp bit ready size).packets
              ∙ ap (λ (e : Option Event). map (packets_of plan) (made_at plan e bit)) (sym there)
              ∙ ap (λ (b : Bool). cond b (map (packets_of plan) (recorded_at past plan j place)) []) (sym w.0)
          | inr w ↦
              ap (λ (b : Bool). cond b (packets r image stamp bit ∷ []) []) w.0
              ∙ ap (λ (b : Bool). cond b (map (packets_of plan) (recorded_at past plan j place)) []) (sym w.0)
        ]

    -- the packets of each sample that was accepted, and of each of the list among the channel's items
    pub accepted-items : AllByRecursion IsBeside past.opening.plans → map (packets_of plan) (recorded_of past plan) ≡ each_packets (samples_of plan.list (samples (items_of past)))
    accepted-items each =
        valued 0 (decided_of past)
        ∙ values_all past.opening past.history past.decisions IsBeside value (packets_at plan.list) one_value (λ l. refl) each
        ∙ looked plan.list (items_of past)

    made_recorded : (e : Option Event) (bit : Bool) → ((image : List ℕ) (stamp : ℕ) → e ≡ Some (Trigger image stamp) → length image ≡ image_len plan.segments) → AllByRecursion (IsRecorded plan) (made_at plan e bit)
    made_recorded None bit size = tt
    made_recorded (Some (Trigger image stamp)) bit size = ((written_is_read plan image stamp bit ready (size image stamp refl)).is, tt)
    made_recorded (Some (Start l)) bit size = tt
    made_recorded (Some (Stop l)) bit size = tt

    -- each sample that was accepted is one of the list
    pub accepted-recorded : (j : ℕ) (pairs : List Decided) → AllByRecursion (IsRecorded plan) (recorded_from past plan j pairs)
    accepted-recorded j [] = tt
    accepted-recorded j (pair ∷ pairs) =
        both (pair.1 && pair.0.1 == plan.list) (recorded_at past plan j pair.0.0) (recorded_from past plan (j + 1) pairs)
        (made_recorded (slice_get past.history pair.0.0) (overload_bit past.opening past.history past.decisions j) (λ image stamp at. images pair.0.0 stamp image at))
        (accepted-recorded (j + 1) pairs)
      where
        joined : (xs ys : List Recorded) → AllByRecursion (IsRecorded plan) xs → AllByRecursion (IsRecorded plan) ys → AllByRecursion (IsRecorded plan) (xs ++ ys)
        joined [] ys a b = b
        joined (x ∷ xs) ys a b = (a.0, joined xs ys a.1 b)

        both : (b : Bool) (xs ys : List Recorded) → AllByRecursion (IsRecorded plan) xs → AllByRecursion (IsRecorded plan) ys → AllByRecursion (IsRecorded plan) (cond b xs [] ++ ys)
        both true xs ys h k = joined xs ys h k
        both false xs ys h k = k
