-- Where a ring holds all that would be sent, nothing is refused for want of room and no sample is dropped.
use Rattle.std.proofs.Common.{◌≡◌, ℕ, zero, suc, ◌+◌, ◌<◌, ◌≤◌, Bool, true, false, cond, inl, inr, List, [], ◌∷◌, ◌++◌, length, map, take, drop, replicate, get_or, refl, sym, ap, ap₂, subst, ◌∙◌, arith, append_assoc, length-append}
use Rattle.std.specs.Prelude.{Option, Some, None, flat_map, slice_get, zip}
use Rattle.std.specs.Option.{is_none, option_map}
use Rattle.std.proofs.Math.Seq.{take-append_seam, take-length}
use Rattle.std.proofs.lemmas.List.{get_or-replicate, length-replicate, length-take-le, replicate-append-replicate, take-append-drop, take-append-le, take-replicate}
use Rattle.std.proofs.lemmas.List.Elements.{filter_map-append}
use Rattle.std.proofs.lemmas.Option.{same_Some}
use Rattle.xcp_base.specs.declared.item.Item.{Item}
use Rattle.channel_ring.specs.Room.{units, units-append}
use Rattle.copy_plan.specs.Config.{ListPlan}
use Rattle.sampler.specs.History.{Event, Trigger, Start, Stop, Opening, due, due_at, pairs_at, with_past}
use Rattle.sampler.specs.Decisions.{decided, overload_bit}
use Rattle.sampler.specs.Items.{items, items_at, marker_of, sample, samples_from}
use Rattle.sampler.specs.Past.{Past}
use Rattle.sampler.specs.Refusals.{running_at, start_refusal, stop_refusal, trigger_refusal}
use Rattle.sampler.specs.Standing.{DropsOnlyWhenFull}
use Rattle.sampler.specs.declared.faults.StartFault.{StartFault}
use Rattle.sampler.specs.declared.faults.StopFault.TheVariants.{NoRoom}
use Rattle.sampler.specs.declared.faults.TriggerFault.{TriggerFault}
use Rattle.sampler.proofs.Histories.{append_nil, due-append, due-more, items-more, length-map_of, length-zip_same, slice_get-behind, zip-append}
use Rattle.daq_run.specs.declared.cause.Cause.{Cause}
use Rattle.daq_run.specs.declared.cause.Cause.TheVariants.{Start as OfStart, Stop as OfStop, Trigger as OfTrigger}
use Rattle.daq_run.specs.Answers.{Answered, ExceedsRoom, IsAnswer, Setting, accepted, accepted_event, event_refusal, until}
use Rattle.daq_run.proofs.DoneLemmas.{due_of_front}
use Rattle.daq_run.specs.Ample.{AmpleRingsDropNothing, fit_events, no_drops, whole_past}

-- the items of a history in which no sample is dropped
abbrev whole_items : Opening → List Event → List Item
whole_items o h = items o h (no_drops o h)

take-zip : {X Y : Type 0} (j : ℕ) (xs : List X) (ys : List Y) → take j (zip xs ys) ≡ zip xs (take j ys)
take-zip zero [] ys = refl
take-zip zero (x ∷ xs) ys = refl
take-zip (suc j) [] ys = refl
take-zip (suc j) (x ∷ xs) [] = refl
take-zip (suc j) (x ∷ xs) (y ∷ ys) = ap (λ zs. (x, y) ∷ zs) (take-zip j xs ys)

past_end : (d : List Bool) (j : ℕ) → length d ≤ j → get_or d j false ≡ false
past_end [] j h = refl
past_end (b ∷ d) zero h = absurd (omega arith)
past_end (b ∷ d) (suc j) h = past_end d j (omega arith)

module _ (o : Opening) (h : List Event) (image : List ℕ) (stamp : ℕ) where
  -- a sample is as the decisions before its pair have it
  sample-same : (a b : List Bool) (j : ℕ) (p : ListPlan) → take j a ≡ take j b → sample o h a j p image stamp ≡ sample o h b j p image stamp
  unfolding sample overload_bit
  sample-same a b j p e =
      let pairs : take j (decided o h a) ≡ take j (decided o h b) = take-zip j (due o h) a ∙ ap (zip (due o h)) e ∙ sym (take-zip j (due o h) b) in
      rw (e, pairs) refl

  from-true : (d : List Bool) (j : ℕ) (p : ListPlan) (ps : List ListPlan) → get_or d j false ≡ true
      → samples_from o h d j (p ∷ ps) image stamp ≡ sample o h d j p image stamp ∷ samples_from o h d (j + 1) ps image stamp
  unfolding samples_from
  from-true d j p ps e = rw e refl

  from-false : (d : List Bool) (j : ℕ) (p : ListPlan) (ps : List ListPlan) → get_or d j false ≡ false
      → samples_from o h d j (p ∷ ps) image stamp ≡ samples_from o h d (j + 1) ps image stamp
  unfolding samples_from
  from-false d j p ps e = rw e refl

  none-from : (d : List Bool) (j : ℕ) (ps : List ListPlan) → length d ≤ j → samples_from o h d j ps image stamp ≡ []
  unfolding samples_from
  none-from d j [] e = refl
  none-from d j (p ∷ ps) e = from-false d j p ps (past_end d j e) ∙ none-from d (j + 1) ps (omega (arith, e))

  -- the samples before pair j, and that of pair j, are among those of all pairs
  front_fits : (cost : Item → ℕ) (j n i k : ℕ) (qs : List ListPlan) (p : ListPlan) → slice_get qs k ≡ Some p → i + k ≡ j → i + length qs ≤ n
      → units cost (samples_from o h (replicate j true) i qs image stamp) + cost (sample o h (replicate n true) j p image stamp)
      ≤ units cost (samples_from o h (replicate n true) i qs image stamp)
  front_fits cost j n i k [] p at is within = absurd cc
  front_fits cost j n i zero (q ∷ qs) p at is within =
      let here : q ≡ p = cc in
      let same : i ≡ j = omega (arith, is) in
      let none = none-from (replicate j true) i (q ∷ qs) (omega (arith, length-replicate j true, is)) in
      let all = from-true (replicate n true) i q qs (get_or-replicate n i true false (omega (arith, within))) in
      let one : sample o h (replicate n true) i q image stamp ≡ sample o h (replicate n true) j p image stamp = ap₂ (λ x y. sample o h (replicate n true) x y image stamp) same here in
      omega (arith, ap (units cost) none, ap (units cost) all, ap cost one)
  front_fits cost j n i (suc k) (q ∷ qs) p at is within =
      let a = from-true (replicate j true) i q qs (get_or-replicate j i true false (omega (arith, is))) in
      let b = from-true (replicate n true) i q qs (get_or-replicate n i true false (omega (arith, within))) in
      let below : i ≤ j = omega (arith, is) in
      let low : i ≤ n = omega (arith, within) in
      let one = sample-same (replicate j true) (replicate n true) i q (take-replicate i j true below ∙ sym (take-replicate i n true low)) in
      let rest = front_fits cost j n (i + 1) k qs p at (omega (arith, is)) (omega (arith, within)) in
      omega (arith, ap (units cost) a, ap (units cost) b, ap cost one, rest)

counted : (o : Opening) (h : List Event) (e : Event) → length (due o (h ++ e ∷ [])) ≡ length (due o h) + length (due_at o h e)
counted o h e = ap length (due-more o h e) ∙ length-append (due o h) (pairs_at o (h, e)) ∙ ap (λ n. length (due o h) + n) (length-map_of {Y = ℕ × ℕ} (λ (plan : ListPlan). (length h, plan.list)) (due_at o h e))

no_drops-more : (o : Opening) (h : List Event) (e : Event) → no_drops o (h ++ e ∷ []) ≡ no_drops o h ++ replicate (length (due_at o h e)) true
no_drops-more o h e = ap (λ n. replicate n true) (counted o h e) ∙ sym (replicate-append-replicate (length (due o h)) (length (due_at o h e)) true)

module _ (cost : Item → ℕ) (o : Opening) where
  whole-more : (h : List Event) (e : Event) → units cost (whole_items o (h ++ e ∷ []))
      ≡ units cost (whole_items o h) + units cost (items_at o (h ++ e ∷ []) (no_drops o (h ++ e ∷ [])) (h, e))
  whole-more h e =
      let ds = replicate (length (due_at o h e)) true in
      let len : length (no_drops o h) ≡ length (due o h) = length-replicate (length (due o h)) true in
      let more = items-more o h e (no_drops o h) ds len in
      let same = no_drops-more o h e in
      let P : List Bool → Type 0 = λ d. items o (h ++ e ∷ []) d ≡ whole_items o h ++ items_at o (h ++ e ∷ []) d (h, e) in
      ap (units cost) (subst P (sym same) more) ∙ units-append cost (whole_items o h) (items_at o (h ++ e ∷ []) (no_drops o (h ++ e ∷ [])) (h, e))

  whole-mono : (h r : List Event) → units cost (whole_items o h) ≤ units cost (whole_items o (h ++ r))
  whole-mono h [] = omega (arith, ap (λ x. units cost (whole_items o x)) (append_nil h))
  whole-mono h (e ∷ r) =
      let later = whole-mono (h ++ e ∷ []) r in
      omega (arith, whole-more h e, later, ap (λ x. units cost (whole_items o x)) (append_assoc h (e ∷ []) r))

-- what comes later leaves the samples of the pairs that were decided
sample-front : (o : Opening) (h r : List Event) (d more : List Bool) (j : ℕ) (p : ListPlan) (image : List ℕ) (stamp : ℕ)
    → length d ≡ length (due o h) → j < length d → sample o (h ++ r) (d ++ more) j p image stamp ≡ sample o h d j p image stamp
unfolding sample overload_bit
sample-front o h r d more j p image stamp whole below =
    let rest = flat_map (pairs_at o) (with_past h r) in
    let front : take j (d ++ more) ≡ take j d = take-append-le j d more (omega (arith, below)) in
    let all : decided o (h ++ r) (d ++ more) ≡ decided o h d ++ zip rest more = ap (λ ps. zip ps (d ++ more)) (due-append o h r) ∙ zip-append (due o h) rest d more (sym whole) in
    let long = length-zip_same (due o h) d whole in
    let pairs : take j (decided o (h ++ r) (d ++ more)) ≡ take j (decided o h d) = ap (take j) all ∙ take-append-le j (decided o h d) (zip rest more) (omega (arith, below, long, whole)) in
    let own : slice_get (due o (h ++ r)) j ≡ slice_get (due o h) j = ap (λ ps. slice_get ps j) (due-append o h r) ∙ get_front (due o h) rest j (omega (arith, below, whole)) in
    rw (front, pairs, own) refl
  where
    get_front : {X : Type 0} (xs ys : List X) (k : ℕ) → k < length xs → slice_get (xs ++ ys) k ≡ slice_get xs k
    get_front [] ys k h = absurd (omega (arith, h))
    get_front (x ∷ xs) ys zero h = refl
    get_front (x ∷ xs) ys (suc k) h = get_front xs ys k (omega (arith, h))

get-there : {X : Type 0} (xs : List X) (k : ℕ) → k < length xs → (x : X) × (slice_get xs k ≡ Some x)
get-there [] k h = absurd (omega arith)
get-there (x ∷ xs) zero h = (x, refl)
get-there (x ∷ xs) (suc k) h = get-there xs k (omega (arith, h))

items_at-trigger : (o : Opening) (h past : List Event) (d : List Bool) (image : List ℕ) (stamp : ℕ)
    → items_at o h d (past, Trigger image stamp) ≡ samples_from o h d (length (due o past)) (due_at o past (Trigger image stamp)) image stamp
unfolding items_at
items_at-trigger o h past d image stamp = refl

one_more_true : (k : ℕ) (bs : List Bool) → replicate k true ++ true ∷ bs ≡ replicate (k + 1) true ++ bs
one_more_true k bs = sym (append_assoc (replicate k true) (true ∷ []) bs) ∙ ap (λ x. x ++ bs) (replicate-append-replicate k 1 true)

module _ (s : Setting) (o : Opening) (h r h' : List Event) (d' ds more : List Bool) (stamp : ℕ) (image : List ℕ)
    (events : h' ≡ h ++ Trigger image stamp ∷ r) (decided_so : d' ≡ (no_drops o h ++ ds) ++ more)
    (many : length ds ≡ length (due_at o h (Trigger image stamp)))
    (drops : DropsOnlyWhenFull s.capacity s.cost (record { opening = o; history = h'; decisions = d' }))
    (enough : units s.cost (whole_items o (h ++ Trigger image stamp ∷ [])) ≤ s.capacity) where
  -- the first sample that is dropped would have found room
  no_first_drop : (k : ℕ) (bs : List Bool) → ds ≡ replicate k true ++ false ∷ bs → ⊥
  unfolding DropsOnlyWhenFull
  no_first_drop k bs is =
      let e = Trigger image stamp in
      let H = h ++ e ∷ [] in
      let D = no_drops o h ++ ds in
      let J = length (due o h) in
      let plans = due_at o h e in
      let A = replicate (J + k) true in
      let within : k < length plans = omega (arith, many, ap length is, length-append (replicate k true) (false ∷ bs), length-replicate k true) in
      let p = get-there plans k within in
      let begins : D ≡ A ++ false ∷ bs =
      ap (λ x. no_drops o h ++ x) is ∙ sym (append_assoc (no_drops o h) (replicate k true) (false ∷ bs)) ∙ ap (λ x. x ++ false ∷ bs) (replicate-append-replicate J k true) in
      let decisions : d' ≡ A ++ (false ∷ (bs ++ more)) = decided_so ∙ ap (λ x. x ++ more) begins ∙ append_assoc A (false ∷ bs) more in
      let long : length A ≡ J + k = length-replicate (J + k) true in
      let zero_more : length A + 0 ≡ J + k = omega (arith, long) in
      let false_at : slice_get d' (J + k) ≡ Some false = ap (λ x. slice_get x (J + k)) decisions ∙ ap (slice_get (A ++ (false ∷ (bs ++ more)))) (sym zero_more) ∙ slice_get-behind A (false ∷ (bs ++ more)) 0 in
      let front : take (J + k) d' ≡ A = ap (take (J + k)) decisions ∙ ap (λ m. take m (A ++ (false ∷ (bs ++ more)))) (sym long) ∙ take-append_seam A (false ∷ (bs ++ more)) in
      let front_own : take (J + k) D ≡ A = ap (take (J + k)) begins ∙ ap (λ m. take m (A ++ false ∷ bs)) (sym long) ∙ take-append_seam A (false ∷ bs) in
      let over = drops h r image stamp k p.0 events p.1 false_at in
      let N = length (due o H) in
      let grown : N ≡ J + length plans = counted o h e in
      let B = no_drops o H in
      let own : length (no_drops o h) ≡ J = length-replicate J true in
      let whole : length D ≡ N = omega (arith, length-append (no_drops o h) ds, own, many, grown) in
      let later : h' ≡ H ++ r = events ∙ sym (append_assoc h (e ∷ []) r) in
      let kept : sample o h' d' (J + k) p.0 image stamp ≡ sample o H B (J + k) p.0 image stamp =
      ap₂ (λ x y. sample o x y (J + k) p.0 image stamp) later decided_so
      ∙ sample-front o H r D more (J + k) p.0 image stamp whole (omega (arith, whole, grown, within))
      ∙ sample-same o H image stamp D B (J + k) p.0 (front_own ∙ sym (take-replicate (J + k) N true (omega (arith, grown, within)))) in
      let before : items o H A ≡ items o h (no_drops o h) ++ items_at o H A (h, e) =
      subst (λ x. items o H x ≡ items o h (no_drops o h) ++ items_at o H x (h, e)) (replicate-append-replicate J k true) (items-more o h e (no_drops o h) (replicate k true) own) in
      let fits = front_fits o H image stamp s.cost (J + k) N J k plans p.0 p.1 refl (omega (arith, grown)) in
      let a = ap (units s.cost) (ap (items o H) front ∙ before) ∙ units-append s.cost (items o h (no_drops o h)) (items_at o H A (h, e)) in
      let b = ap (units s.cost) (items_at-trigger o H h A image stamp) in
      let c = ap (units s.cost) (items_at-trigger o H h B image stamp) in
      omega (arith, over, a, b, c, fits, ap s.cost kept, whole-more s.cost o h e, enough)

  all_true : (k : ℕ) (bs : List Bool) → ds ≡ replicate k true ++ bs → bs ≡ replicate (length bs) true
  all_true k [] is = refl
  all_true k (true ∷ bs) is = ap (λ x. true ∷ x) (all_true (k + 1) bs (is ∙ one_more_true k bs))
  all_true k (false ∷ bs) is = absurd (no_first_drop k bs is)

  none_dropped : ds ≡ replicate (length (due_at o h (Trigger image stamp))) true
  none_dropped = all_true 0 ds refl ∙ ap (λ m. replicate m true) many

nothing : (ds : List Bool) → length ds ≡ 0 → ds ≡ []
nothing [] e = refl
nothing (b ∷ ds) e = absurd (omega (arith, e))

due-start : (o : Opening) (h : List Event) (l : ℕ) → due_at o h (Start l) ≡ []
unfolding due_at
due-start o h l = refl

due-stop : (o : Opening) (h : List Event) (l : ℕ) → due_at o h (Stop l) ≡ []
unfolding due_at
due-stop o h l = refl

items_at-stop : (o : Opening) (h past : List Event) (d : List Bool) (l : ℕ) → items_at o h d (past, Stop l) ≡ marker_of o.channel l ∷ []
unfolding items_at
items_at-stop o h past d l = refl

-- no event adds a decision that drops
none_new : (s : Setting) (o : Opening) (h r h' : List Event) (e : Event) (d' ds more : List Bool) → length ds ≡ length (due_at o h e)
    → h' ≡ h ++ e ∷ r → d' ≡ (no_drops o h ++ ds) ++ more → DropsOnlyWhenFull s.capacity s.cost (record { opening = o; history = h'; decisions = d' })
    → units s.cost (whole_items o (h ++ e ∷ [])) ≤ s.capacity → no_drops o h ++ ds ≡ no_drops o (h ++ e ∷ [])
none_new s o h r h' (Trigger image stamp) d' ds more many events decisions drops enough =
    ap (λ x. no_drops o h ++ x) (none_dropped s o h r h' d' ds more stamp image events decisions many drops enough) ∙ sym (no_drops-more o h (Trigger image stamp))
none_new s o h r h' (Start l) d' ds more many events decisions drops enough =
    let empty = ap length (due-start o h l) in
    ap (λ x. no_drops o h ++ x) (nothing ds (omega (arith, many, empty)) ∙ ap (λ m. replicate m true) (sym empty)) ∙ sym (no_drops-more o h (Start l))
none_new s o h r h' (Stop l) d' ds more many events decisions drops enough =
    let empty = ap length (due-stop o h l) in
    ap (λ x. no_drops o h ++ x) (nothing ds (omega (arith, many, empty)) ∙ ap (λ m. replicate m true) (sym empty)) ∙ sym (no_drops-more o h (Stop l))

-- a stop finds room
finds_room : (s : Setting) (o : Opening) (h : List Event) (e : Event) → units s.cost (whole_items o (h ++ e ∷ [])) ≤ s.capacity → ExceedsRoom s (whole_past o h) e → ⊥
finds_room s o h (Trigger image stamp) enough over = over
finds_room s o h (Start l) enough over = over
finds_room s o h (Stop l) enough over =
    omega (arith, enough, over, whole-more s.cost o h (Stop l), ap (units s.cost) (items_at-stop o (h ++ Stop l ∷ []) h (no_drops o (h ++ Stop l ∷ [])) l))

-- no past speaks against a stop for want of room
stop_room : (r : Option Bool) → option_map OfStop (stop_refusal r) ≡ Some (OfStop NoRoom) → ⊥
stop_room None is = cc
stop_room (Some true) is = cc
stop_room (Some false) is = cc

start_room : (r : Option StartFault) → option_map OfStart r ≡ Some (OfStop NoRoom) → ⊥
start_room None is = cc
start_room (Some fault) is = cc

trigger_room : (r : Option TriggerFault) → option_map OfTrigger r ≡ Some (OfStop NoRoom) → ⊥
trigger_room None is = cc
trigger_room (Some fault) is = cc

never_room : (image_len : ℕ) (past : Past) (e : Event) → event_refusal image_len past e ≡ Some (OfStop NoRoom) → ⊥
never_room image_len past (Trigger image stamp) is = trigger_room (trigger_refusal image_len past image) is
never_room image_len past (Start l) is = start_room (start_refusal (running_at past l)) is
never_room image_len past (Stop l) is = stop_room (running_at past l) is

take-below : {X : Type 0} (m n : ℕ) (xs : List X) → m ≤ n → take m (take n xs) ≡ take m xs
take-below zero n xs h = refl
take-below (suc m) zero xs h = absurd (omega (arith, h))
take-below (suc m) (suc n) [] h = refl
take-below (suc m) (suc n) (x ∷ xs) h = ap (λ ys. x ∷ ys) (take-below m n xs (omega (arith, h)))

-- two that are the same have the same answer
answer_of : (a b : Answered) → Some a ≡ Some b → a.1 ≡ b.1
answer_of a b is = ap (λ (x : Answered). x.1) (same_Some a b is)

-- what is asked, of what was asked and answered
abbrev asked_in : List Answered → List Event
asked_in told = map (λ (a : Answered). a.0) told

fits-None : (image_len : ℕ) (o : Opening) (h : List Event) (e : Event) (es : List Event) → event_refusal image_len (whole_past o h) e ≡ None
    → fit_events image_len o h (e ∷ es) ≡ e ∷ fit_events image_len o (h ++ e ∷ []) es
fits-None image_len o h e es is = ap (λ r. cond (is_none r) (e ∷ fit_events image_len o (h ++ e ∷ []) es) (fit_events image_len o h es)) is

fits-Some : (image_len : ℕ) (o : Opening) (h : List Event) (e : Event) (es : List Event) (cause : Cause) → event_refusal image_len (whole_past o h) e ≡ Some cause
    → fit_events image_len o h (e ∷ es) ≡ fit_events image_len o h es
fits-Some image_len o h e es cause is = ap (λ r. cond (is_none r) (e ∷ fit_events image_len o (h ++ e ∷ []) es) (fit_events image_len o h es)) is

module _ (s : Setting) (past : Past) (told : List Answered)
    (each : (i : ℕ) (e : Event) (answer : Option Cause) → slice_get told i ≡ Some (e, answer) → IsAnswer s (until past (accepted (take i told))) e answer)
    (history : past.history ≡ accepted told)
    (whole : length past.decisions ≡ length (due past.opening past.history))
    (drops : DropsOnlyWhenFull s.capacity s.cost past) where
  abbrev o : Opening
  o = past.opening

  -- the answer behind some others is one to the past without drops
  answer_here : (front rest : List Answered) (e : Event) (answer : Option Cause) (h : List Event) → told ≡ front ++ (e, answer) ∷ rest → accepted front ≡ h
      → take (length (due o h)) past.decisions ≡ no_drops o h → IsAnswer s (whole_past o h) e answer
  answer_here front rest e answer h split is so =
      let none : length front + 0 ≡ length front = omega arith in
      let at : slice_get told (length front) ≡ Some (e, answer) = ap (λ t. slice_get t (length front)) split ∙ ap (slice_get (front ++ (e, answer) ∷ rest)) (sym none) ∙ slice_get-behind front ((e, answer) ∷ rest) 0 in
      let before : accepted (take (length front) told) ≡ h = ap accepted (ap (take (length front)) split ∙ take-append_seam front ((e, answer) ∷ rest)) ∙ is in
      let same : until past (accepted (take (length front) told)) ≡ whole_past o h = ap (until past) before ∙ ap (λ (d : List Bool). record { opening = o; history = h; decisions = d }) so in
      subst (λ (p : Past). IsAnswer s p e answer) same (each (length front) e answer at)

  ample-from : (front rest : List Answered) (h : List Event) → told ≡ front ++ rest → accepted front ≡ h
      → take (length (due o h)) past.decisions ≡ no_drops o h
      → units s.cost (whole_items o (h ++ fit_events s.image_len o h (asked_in rest))) ≤ s.capacity
      → (past.history ≡ h ++ fit_events s.image_len o h (asked_in rest)) × (past.decisions ≡ no_drops o past.history)
      × ((i : ℕ) (e : Event) → slice_get rest i ≡ Some (e, Some (OfStop NoRoom)) → ⊥)
  ample-from front [] h split is so enough =
      let all : past.history ≡ h = history ∙ (ap accepted (split ∙ append_nil front) ∙ is) in
      let some : past.decisions ≡ take (length (due o h)) past.decisions = sym (take-length past.decisions) ∙ ap (λ n. take n past.decisions) (whole ∙ ap (λ x. length (due o x)) all) in
      (all ∙ sym (append_nil h), some ∙ (so ∙ ap (no_drops o) (sym all)), λ i e at. absurd cc)
  ample-from front ((e, None) ∷ rest) h split is so enough =
      let H = h ++ e ∷ [] in
      let here = answer_here front rest e None h split is so in
      let fits = fits-None s.image_len o h e (asked_in rest) here in
      let later : h ++ fit_events s.image_len o h (e ∷ asked_in rest) ≡ H ++ fit_events s.image_len o H (asked_in rest) = ap (λ x. h ++ x) fits ∙ sym (append_assoc h (e ∷ []) (fit_events s.image_len o H (asked_in rest))) in
      let enough_on : units s.cost (whole_items o (H ++ fit_events s.image_len o H (asked_in rest))) ≤ s.capacity = subst (λ x. units s.cost (whole_items o x) ≤ s.capacity) later enough in
      let enough_here : units s.cost (whole_items o H) ≤ s.capacity = omega (arith, enough_on, whole-mono s.cost o H (fit_events s.image_len o H (asked_in rest))) in
      let events : past.history ≡ h ++ e ∷ accepted rest = history ∙ (ap accepted split ∙ (filter_map-append accepted_event front ((e, None) ∷ rest) ∙ ap (λ x. x ++ (e ∷ accepted rest)) is)) in
      let d = past.decisions in
      let J = length (due o h) in
      let N = length (due o H) in
      let grown : N ≡ J + length (due_at o h e) = counted o h e in
      let most = due_of_front o H (accepted rest) in
      let all = ap (λ x. length (due o x)) (events ∙ sym (append_assoc h (e ∷ []) (accepted rest))) in
      let D = take N d in
      let long : length D ≡ N = length-take-le N d (omega (arith, most, all, whole)) in
      let first : take J D ≡ no_drops o h = take-below J N d (omega (arith, grown)) ∙ so in
      let ds = drop J D in
      let parts : D ≡ no_drops o h ++ ds = sym (take-append-drop J D) ∙ ap (λ x. x ++ ds) first in
      let many : length ds ≡ length (due_at o h e) = omega (arith, ap length parts, length-append (no_drops o h) ds, length-replicate J true, long, grown) in
      let decisions : d ≡ (no_drops o h ++ ds) ++ drop N d = sym (take-append-drop N d) ∙ ap (λ x. x ++ drop N d) parts in
      let none = none_new s o h (accepted rest) past.history e d ds (drop N d) many events decisions drops enough_here in
      let split_on : told ≡ (front ++ (e, None) ∷ []) ++ rest = split ∙ sym (append_assoc front ((e, None) ∷ []) rest) in
      let is_on : accepted (front ++ (e, None) ∷ []) ≡ H = filter_map-append accepted_event front ((e, None) ∷ []) ∙ ap (λ x. x ++ e ∷ []) is in
      let done = ample-from (front ++ (e, None) ∷ []) rest H split_on is_on (parts ∙ none) enough_on in
      (done.0 ∙ sym later, done.1, no_room_behind e rest done.2)
    where
      no_room_behind : (e : Event) (rest : List Answered)
          → ((i : ℕ) (f : Event) → slice_get rest i ≡ Some (f, Some (OfStop NoRoom)) → ⊥) → (i : ℕ) (f : Event) → slice_get ((e, None) ∷ rest) i ≡ Some (f, Some (OfStop NoRoom)) → ⊥
      no_room_behind e rest later zero f at = let same = answer_of (e, None) (f, Some (OfStop NoRoom)) at in absurd cc
      no_room_behind e rest later (suc i) f at = later i f at
  ample-from front ((e, Some cause) ∷ rest) h split is so enough = elim (answer_here front rest e (Some cause) h split is so) [
    | inl why ↦
        let fits = fits-Some s.image_len o h e (asked_in rest) cause why in
        let later : h ++ fit_events s.image_len o h (e ∷ asked_in rest) ≡ h ++ fit_events s.image_len o h (asked_in rest) = ap (λ x. h ++ x) fits in
        let split_on : told ≡ (front ++ (e, Some cause) ∷ []) ++ rest = split ∙ sym (append_assoc front ((e, Some cause) ∷ []) rest) in
        let is_on : accepted (front ++ (e, Some cause) ∷ []) ≡ h = filter_map-append accepted_event front ((e, Some cause) ∷ []) ∙ (append_nil (accepted front) ∙ is) in
        let done = ample-from (front ++ (e, Some cause) ∷ []) rest h split_on is_on so (subst (λ x. units s.cost (whole_items o x) ≤ s.capacity) later enough) in
        (done.0 ∙ sym later, done.1, refused_behind e cause rest (λ same. never_room s.image_len (whole_past o h) e (why ∙ ap Some same)) done.2)
    | inr full ↦
        let fits = fits-None s.image_len o h e (asked_in rest) full.0 in
        let later : h ++ fit_events s.image_len o h (e ∷ asked_in rest) ≡ (h ++ e ∷ []) ++ fit_events s.image_len o (h ++ e ∷ []) (asked_in rest) = ap (λ x. h ++ x) fits ∙ sym (append_assoc h (e ∷ []) (fit_events s.image_len o (h ++ e ∷ []) (asked_in rest))) in
        let enough_on = subst (λ x. units s.cost (whole_items o x) ≤ s.capacity) later enough in
        absurd (finds_room s o h e (omega (arith, enough_on, whole-mono s.cost o (h ++ e ∷ []) (fit_events s.image_len o (h ++ e ∷ []) (asked_in rest)))) full.2)
  ]
    where
      refused_behind : (e : Event) (cause : Cause) (rest : List Answered) → (cause ≡ OfStop NoRoom → ⊥)
          → ((i : ℕ) (f : Event) → slice_get rest i ≡ Some (f, Some (OfStop NoRoom)) → ⊥) → (i : ℕ) (f : Event) → slice_get ((e, Some cause) ∷ rest) i ≡ Some (f, Some (OfStop NoRoom)) → ⊥
      refused_behind e cause rest first later zero f at = first (same_Some cause (OfStop NoRoom) (answer_of (e, Some cause) (f, Some (OfStop NoRoom)) at))
      refused_behind e cause rest first later (suc i) f at = later i f at

-- at first nothing is due
none_first : (o : Opening) (d : List Bool) → take (length (due o [])) d ≡ no_drops o []
unfolding due with_past
none_first o d = refl

pub ample : AmpleRingsDropNothing
ample s asked told past enough a whole drops =
    let o = past.opening in
    let none : take (length (due o [])) past.decisions ≡ no_drops o [] = none_first o past.decisions in
    let holds : units s.cost (whole_items o (fit_events s.image_len o [] (asked_in told))) ≤ s.capacity = subst (λ es. units s.cost (whole_items o (fit_events s.image_len o [] es)) ≤ s.capacity) (sym a.asks) enough in
    let done = ample-from s past told a.each a.history whole drops [] told [] refl refl none holds in
    let history : past.history ≡ fit_events s.image_len o [] asked = done.0 ∙ ap (fit_events s.image_len o []) a.asks in
    record { history = history; decisions = done.1 ∙ ap (no_drops o) history; no_room = done.2 }
