-- The same steps, of which the rings refused the same offers, did the same.
use Rattle.std.proofs.Common.{◌≡◌, ℕ, zero, suc, ◌<◌, inl, inr, false, List, [], ◌∷◌, ◌++◌, length, map, take, refl, sym, ap, ap₂, subst, ◌∙◌, arith, append_assoc}
use Rattle.std.specs.Prelude.{All, Bool, Option, None, Some, cond, nat_eq, slice_get, true}
use Rattle.std.proofs.lemmas.Bool.Decides.{eqb_tells}
use Rattle.std.proofs.lemmas.List.{append_cancel_left}
use Rattle.std.proofs.lemmas.List.Elements.{All-head, All-tail}
use Rattle.std.proofs.lemmas.Option.{same_Some}
use Rattle.std.proofs.Math.Seq.{take-append_seam}
use Rattle.xcp_base.specs.declared.item.Item.{Item}
use Rattle.sampler.specs.History.{Event, Opening, due}
use Rattle.sampler.specs.Past.{Past}
use Rattle.transmitter.specs.Merge.{of_ring, taken_from}
use Rattle.transmitter.specs.Rounds.{round}
use Rattle.daq_run.specs.declared.cause.Cause.{Cause}
use Rattle.daq_run.specs.Answers.{Answered, AreAnswered, IsAnswer, Setting, accepted, until}
use Rattle.daq_run.specs.StepLaws.{RefusalsDecide, RefusesAlike, is_no_room, markers_refused}
use Rattle.daq_run.specs.StepRuns.{Done, IsStepOf, Pumped, TakesFront, Told, past_after, sent_in, step_done, taken_in, told_of}
use Rattle.daq_run.specs.Steps.{Ask}
use Rattle.daq_run.proofs.DoneLemmas.{takes_same}

-- lists of as many lists, the same at each place
same_lists : (n : ℕ) (xs ys : List (List Item)) → length xs ≡ n → length ys ≡ n → ((c : ℕ) → c < n → of_ring xs c ≡ of_ring ys c) → xs ≡ ys
same_lists n [] [] many again same = refl
same_lists n [] (y ∷ ys) many again same = absurd (omega (arith, many, again))
same_lists n (x ∷ xs) [] many again same = absurd (omega (arith, many, again))
same_lists zero (x ∷ xs) (y ∷ ys) many again same = absurd (omega (arith, many))
same_lists (suc n) (x ∷ xs) (y ∷ ys) many again same =
    ap₂ (λ z zs. z ∷ zs) (same 0 (omega arith)) (same_lists n xs ys (omega (arith, many)) (omega (arith, again)) (λ c h. same (suc c) (omega (arith, h))))

-- a pump takes what the steps before it determine
same_front : (n : ℕ) (sent : ℕ → List Item) (before qs rs : List (ℕ × Item)) → TakesFront n sent before false qs → TakesFront n sent before false rs → qs ≡ rs
same_front n sent before qs rs t u =
    let left : t.left ≡ u.left = same_lists n t.left u.left t.as_many u.as_many (λ c within. append_cancel_left (taken_from c before) (of_ring t.left c) (of_ring u.left c) (t.leaves c within ∙ sym (u.leaves c within))) in
    t.whole refl ∙ (ap (round 0) left ∙ sym (u.whole refl))

-- how a step that asked for something was answered
abbrev answer_of : Done → Option (Option Cause)
answer_of (Told c event answer) = Some answer
answer_of (Pumped taken) = None

head_same : {X : Type 0} (x y : X) (xs ys : List X) → ◌≡◌ {A = List X} (x ∷ xs) (y ∷ ys) → x ≡ y
head_same x y xs ys e = cc

tail_same : {X : Type 0} (x y : X) (xs ys : List X) → ◌≡◌ {A = List X} (x ∷ xs) (y ∷ ys) → xs ≡ ys
tail_same x y xs ys e = cc

at_seam : {X : Type 0} (xs : List X) (x : X) (ys : List X) → slice_get (xs ++ x ∷ ys) (length xs) ≡ Some x
at_seam [] x ys = refl
at_seam (z ∷ xs) x ys = at_seam xs x ys

module _ (n : ℕ) (past : ℕ → Past) where
  -- what a pump takes behind these steps
  abbrev TakesBehind : List Done → Done → Type 0
  TakesBehind before x = (qs : List (ℕ × Item)) → x ≡ Pumped qs → TakesFront n (λ c. sent_in (until (past c) (accepted (told_of c before)))) (taken_in before) false qs

  same_step : (before : List Done) (x y : Done) → step_done x ≡ step_done y → answer_of x ≡ answer_of y → TakesBehind before x → TakesBehind before y → x ≡ y
  same_step before (Told c e a) (Told k f b) step answer t u =
      let channel : c ≡ k = cc in
      let event : e ≡ f = cc in
      let told : a ≡ b = same_Some a b answer in
      ap₂ (λ (pair : ℕ × Event) x. Told pair.0 pair.1 x) (ap₂ (λ i g. (i, g)) channel event) told
  same_step before (Told c e a) (Pumped qs) step answer t u = absurd cc
  same_step before (Pumped qs) (Told c e a) step answer t u = absurd cc
  same_step before (Pumped qs) (Pumped rs) step answer t u = ap Pumped (same_front n (λ c. sent_in (until (past c) (accepted (told_of c before)))) (taken_in before) qs rs (t qs refl) (u rs refl))

  -- and so on behind them
  AllTake : List Done → List Done → Type 0
  AllTake before [] = Unit {0}
  AllTake before (x ∷ xs) = TakesBehind before x × AllTake (before ++ x ∷ []) xs

  same_done : (before xs ys : List Done) → map step_done xs ≡ map step_done ys → map answer_of xs ≡ map answer_of ys → AllTake before xs → AllTake before ys → xs ≡ ys
  unfolding AllTake
  same_done before [] [] steps answers t u = refl
  same_done before [] (y ∷ ys) steps answers t u = absurd cc
  same_done before (x ∷ xs) [] steps answers t u = absurd cc
  same_done before (x ∷ xs) (y ∷ ys) steps answers t u =
      let one = same_step before x y (head_same _ _ _ _ steps) (head_same _ _ _ _ answers) t.0 u.0 in
      let after : AllTake (before ++ x ∷ []) ys = subst (λ z. AllTake (before ++ z ∷ []) ys) (sym one) u.1 in
      ap₂ (λ z zs. z ∷ zs) one (same_done (before ++ x ∷ []) xs ys (tail_same _ _ _ _ steps) (tail_same _ _ _ _ answers) t.1 after)

  all_take : (done : List Done) → ((i : ℕ) (qs : List (ℕ × Item)) → slice_get done i ≡ Some (Pumped qs) → TakesFront n (λ c. sent_in (past_after past done i c)) (taken_in (take i done)) false qs)
      → (before xs : List Done) → done ≡ before ++ xs → AllTake before xs
  unfolding AllTake
  all_take done each before [] is = tt
  all_take done each before (x ∷ xs) is = (
    λ qs pumped.
        let at : slice_get done (length before) ≡ Some (Pumped qs) = ap (λ ds. slice_get ds (length before)) is ∙ (at_seam before x xs ∙ ap Some pumped) in
        let front : take (length before) done ≡ before = ap (take (length before)) is ∙ take-append_seam before (x ∷ xs) in
        subst (λ ds. TakesFront n (λ c. sent_in (until (past c) (accepted (told_of c ds)))) (taken_in ds) false qs) front (each (length before) qs at),
    all_take done each (before ++ x ∷ []) xs (is ∙ sym (append_assoc before (x ∷ []) xs)),
  )

-- to the same past the answer is the same, unless there is no room once alone
same_answer : (s : Setting) (p : Past) (e : Event) (a b : Option Cause) → IsAnswer s p e a → IsAnswer s p e b → is_no_room a ≡ is_no_room b → a ≡ b
same_answer s p e None None t u same = refl
same_answer s p e None (Some d) t (inl w) same = absurd cc
same_answer s p e None (Some d) t (inr w) same = absurd (let is : is_no_room (Some d) ≡ true = ap (λ x. is_no_room (Some x)) w.1 in cc)
same_answer s p e (Some c) None (inl w) u same = absurd cc
same_answer s p e (Some c) None (inr w) u same = absurd (let is : is_no_room (Some c) ≡ true = ap (λ x. is_no_room (Some x)) w.1 in cc)
same_answer s p e (Some c) (Some d) (inl w) (inl v) same = sym w ∙ v
same_answer s p e (Some c) (Some d) (inl w) (inr v) same = absurd (let none = v.0 in cc)
same_answer s p e (Some c) (Some d) (inr w) (inl v) same = absurd (let none = w.0 in cc)
same_answer s p e (Some c) (Some d) (inr w) (inr v) same = ap Some (w.1 ∙ sym v.1)

-- a channel that was asked for the same twice, from the same opening, and whose ring refused the same offers, was told the same
module _ (s : Setting) (past other : Past) (told again : List Answered)
    (each : (i : ℕ) (e : Event) (answer : Option Cause) → slice_get told i ≡ Some (e, answer) → IsAnswer s (until past (accepted (take i told))) e answer)
    (each_again : (i : ℕ) (e : Event) (answer : Option Cause) → slice_get again i ≡ Some (e, answer) → IsAnswer s (until other (accepted (take i again))) e answer)
    (opening : past.opening ≡ other.opening) (decisions : past.decisions ≡ other.decisions) where
  until_same : (h : List Event) → until past h ≡ until other h
  until_same h = ap₂ (λ (o : Opening) (d : List Bool). record { opening = o; history = h; decisions = take (length (due o h)) d }) opening decisions

  answer_here : (front rest : List Answered) (e : Event) (a : Option Cause) → told ≡ front ++ (e, a) ∷ rest → IsAnswer s (until past (accepted front)) e a
  answer_here front rest e a is =
      let at : slice_get told (length front) ≡ Some (e, a) = ap (λ t. slice_get t (length front)) is ∙ at_seam front (e, a) rest in
      let before : take (length front) told ≡ front = ap (take (length front)) is ∙ take-append_seam front ((e, a) ∷ rest) in
      subst (λ t. IsAnswer s (until past (accepted t)) e a) before (each (length front) e a at)

  answer_again : (front rest : List Answered) (e : Event) (a : Option Cause) → again ≡ front ++ (e, a) ∷ rest → IsAnswer s (until other (accepted front)) e a
  answer_again front rest e a is =
      let at : slice_get again (length front) ≡ Some (e, a) = ap (λ t. slice_get t (length front)) is ∙ at_seam front (e, a) rest in
      let before : take (length front) again ≡ front = ap (take (length front)) is ∙ take-append_seam front ((e, a) ∷ rest) in
      subst (λ t. IsAnswer s (until other (accepted t)) e a) before (each_again (length front) e a at)

  told_from : (front xs ys : List Answered) → told ≡ front ++ xs → again ≡ front ++ ys → map (λ (x : Answered). x.0) xs ≡ map (λ (x : Answered). x.0) ys → markers_refused xs ≡ markers_refused ys → xs ≡ ys
  told_from front [] [] is are asks markers = refl
  told_from front [] (y ∷ ys) is are asks markers = absurd cc
  told_from front (x ∷ xs) [] is are asks markers = absurd cc
  told_from front ((e, a) ∷ xs) ((f, b) ∷ ys) is are asks markers =
      let event : e ≡ f = head_same _ _ _ _ asks in
      let here = answer_here front xs e a is in
      let there = subst (λ (p : Past). IsAnswer s p e b) (sym (until_same (accepted front))) (subst (λ g. IsAnswer s (until other (accepted front)) g b) (sym event) (answer_again front ys f b are)) in
      let answer : a ≡ b = same_answer s (until past (accepted front)) e a b here there (head_same _ _ _ _ markers) in
      let one : ◌≡◌ {A = Answered} (e, a) (f, b) = ap₂ (λ g x. (g, x)) event answer in
      let are_on : again ≡ (front ++ (e, a) ∷ []) ++ ys = are ∙ (ap (λ z. front ++ z ∷ ys) (sym one) ∙ sym (append_assoc front ((e, a) ∷ []) ys)) in
      ap₂ (λ z zs. z ∷ zs) one (told_from (front ++ (e, a) ∷ []) xs ys (is ∙ sym (append_assoc front ((e, a) ∷ []) xs)) are_on (tail_same _ _ _ _ asks) (tail_same _ _ _ _ markers))

-- so it was told the same, and came to the same past
told_same : (s : Setting) (asked : List Event) (told again : List Answered) (past other : Past) → AreAnswered s asked told past → AreAnswered s asked again other
    → past.opening ≡ other.opening → RefusesAlike told past again other → told ≡ again
told_same s asked told again past other a b opening alike =
    told_from s past other told again a.each b.each opening alike.samples [] told again refl refl (a.asks ∙ sym b.asks) alike.markers

past_same : (s : Setting) (asked : List Event) (told again : List Answered) (past other : Past) → AreAnswered s asked told past → AreAnswered s asked again other
    → past.opening ≡ other.opening → RefusesAlike told past again other → past ≡ other
past_same s asked told again past other a b opening alike =
    let history : past.history ≡ other.history = a.history ∙ (ap accepted (told_same s asked told again past other a b opening alike) ∙ sym b.history) in
    ap (λ (o : Opening). record { opening = o; history = past.history; decisions = past.decisions }) opening
    ∙ ap₂ (λ (h : List Event) (d : List Bool). record { opening = other.opening; history = h; decisions = d }) history alike.samples

-- steps of n channels that were told the same were answered alike
own_told : (c : ℕ) (e : Event) (a : Option Cause) (xs : List Done) → told_of c (Told c e a ∷ xs) ≡ (e, a) ∷ told_of c xs
own_told c e a xs = elim (eqb_tells c c) [ inl w ↦ ap (λ b. cond b ((e, a) ∷ []) [] ++ told_of c xs) w.0 | inr w ↦ absurd (w.1 refl) ]

module _ (n : ℕ) where
  answers_same : (xs ys : List Done) → map step_done xs ≡ map step_done ys → All (IsStepOf n) (map step_done xs) → ((c : ℕ) → c < n → told_of c xs ≡ told_of c ys) → map answer_of xs ≡ map answer_of ys
  answers_same [] [] steps all same = refl
  answers_same [] (y ∷ ys) steps all same = absurd cc
  answers_same (x ∷ xs) [] steps all same = absurd cc
  answers_same (Pumped qs ∷ xs) (Pumped rs ∷ ys) steps all same =
      ap (λ zs. None ∷ zs) (answers_same xs ys (tail_same _ _ _ _ steps) (All-tail (IsStepOf n) _ _ all) same)
  answers_same (Pumped qs ∷ xs) (Told k f b ∷ ys) steps all same = absurd (let one = head_same _ _ _ _ steps in cc)
  answers_same (Told c e a ∷ xs) (Pumped rs ∷ ys) steps all same = absurd (let one = head_same _ _ _ _ steps in cc)
  answers_same (Told c e a ∷ xs) (Told k f b ∷ ys) steps all same =
      let one : Ask c e ≡ Ask k f = head_same _ _ _ _ steps in
      let channel : c ≡ k = cc in
      let event : e ≡ f = cc in
      let within : c < n = All-head (IsStepOf n) (Ask c e) (map step_done xs) all in
      let there : told_of c (Told k f b ∷ ys) ≡ (f, b) ∷ told_of c ys = subst (λ j. told_of j (Told k f b ∷ ys) ≡ (f, b) ∷ told_of j ys) (sym channel) (own_told k f b ys) in
      let both : (e, a) ∷ told_of c xs ≡ (f, b) ∷ told_of c ys = sym (own_told c e a xs) ∙ (same c within ∙ there) in
      let pair : ◌≡◌ {A = Answered} (e, a) (f, b) = head_same _ _ _ _ both in
      let answer : a ≡ b = ap (λ (x : Answered). x.1) pair in
      let rest : (j : ℕ) → j < n → told_of j xs ≡ told_of j ys = λ j inside. elim (eqb_tells j c) [
        | inl w ↦ subst (λ i. told_of i xs ≡ told_of i ys) (sym w.1) (tail_same _ _ _ _ both)
        | inr w ↦ ap (λ b. cond b ((e, a) ∷ []) [] ++ told_of j xs) (sym w.0) ∙ (same j inside ∙ (ap (λ i. cond (nat_eq j i) ((f, b) ∷ []) [] ++ told_of j ys) (sym channel) ∙ ap (λ t. cond t ((f, b) ∷ []) [] ++ told_of j ys) w.0))
      ] in
      ap₂ (λ z zs. Some z ∷ zs) answer (answers_same xs ys (tail_same _ _ _ _ steps) (All-tail (IsStepOf n) _ _ all) rest)

pub refusals_decide : RefusalsDecide
refusals_decide n settings steps past other done again of_channels a b openings alike =
    let told : (c : ℕ) → c < n → told_of c done ≡ told_of c again = λ c within. told_same (settings c) _ _ _ _ _ (a.answered c within) (b.answered c within) (openings c within) (alike c within) in
    let pasts : (c : ℕ) → c < n → past c ≡ other c = λ c within. past_same (settings c) _ _ _ _ _ (a.answered c within) (b.answered c within) (openings c within) (alike c within) in
    let answers = answers_same n done again (a.steps_done ∙ sym b.steps_done) (subst (All (IsStepOf n)) (sym a.steps_done) of_channels) told in
    let pumped : (i : ℕ) (qs : List (ℕ × Item)) → slice_get again i ≡ Some (Pumped qs) → TakesFront n (λ c. sent_in (past_after past again i c)) (taken_in (take i again)) false qs =
    λ i qs at. takes_same n _ _ _ _ false false qs (λ c within. ap (λ (p : Past). sent_in (until p (accepted (told_of c (take i again))))) (sym (pasts c within))) refl (λ h. h) (b.pumped i qs at) in
    (same_done n past [] done again (a.steps_done ∙ sym b.steps_done) answers (all_take n past done a.pumped [] done refl) (all_take n past again pumped [] again refl), pasts)
