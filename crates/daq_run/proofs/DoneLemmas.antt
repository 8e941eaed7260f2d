-- One step more of a run.
use Rattle.std.proofs.Common.{◌≡◌, ◌⊎◌, ℕ, zero, suc, ◌<◌, ◌≤◌, inl, inr, List, [], ◌∷◌, ◌++◌, length, take, drop, Bool, false, refl, sym, ap, ap₂, subst, ◌∙◌, arith, append-nil, length-append}
use Rattle.std.specs.Prelude.{Option, Some, flat_map, slice_get}
use Rattle.std.proofs.lemmas.Option.{same_Some}
use Rattle.std.proofs.lemmas.List.{map-append, take-append-drop, take-append-le}
use Rattle.std.proofs.lemmas.List.Elements.{filter_map-append}
use Rattle.std.proofs.lemmas.Grind.{flat_map-append}
use Rattle.std.proofs.Math.Seq.{take-append_seam, take-length}
use Rattle.xcp_base.specs.declared.item.Item.{Item}
use Rattle.sampler.specs.History.{Event, Opening, due, pairs_at, with_past}
use Rattle.sampler.proofs.Histories.{due-append}
use Rattle.transmitter.specs.Merge.{of_ring, taken_from}
use Rattle.sampler.specs.Past.{Past}
use Rattle.daq_run.specs.declared.cause.Cause.{Cause}
use Rattle.daq_run.specs.Answers.{Answered, AreAnswered, IsAnswer, Setting, accepted, accepted_event, until}
use Rattle.daq_run.specs.StepRuns.{AreDone, Done, Pumped, TakesFront, sent_in, step_done, taken_at, taken_in, told_at, told_of}
use Rattle.daq_run.specs.Steps.{RunStep, asked_at, asked_of}

-- a past is its parts
pub whole_past : (p : Past) → p ≡ record { opening = p.opening; history = p.history; decisions = p.decisions }
whole_past p = refl

-- an element behind some others: it is one of them, or it is the last
module _ {X : Type 0} where
  pub before_or_last : (xs : List X) (x y : X) (i : ℕ) → slice_get (xs ++ x ∷ []) i ≡ Some y
      → ((i < length xs) × (slice_get xs i ≡ Some y)) ⊎ ((i ≡ length xs) × (x ≡ y))
  before_or_last [] x y zero at = inr (refl, same_Some x y at)
  before_or_last [] x y (suc i) at = absurd cc
  before_or_last (z ∷ xs) x y zero at = inl (omega arith, at)
  before_or_last (z ∷ xs) x y (suc i) at = elim (before_or_last xs x y i at) [
    | inl w ↦ inl (omega (arith, w.0), w.1)
    | inr w ↦ inr (ap suc w.0, w.1)
  ]

-- the decisions for the front of a history are no more than those for all of it
pub due_of_front : (o : Opening) (a b : List Event) → length (due o a) ≤ length (due o (a ++ b))
due_of_front o a b =
    let all = ap length (due-append o a b) in
    let both = length-append (due o a) (flat_map (pairs_at o) (with_past a b)) in
    omega (arith, all, both)

-- what was accepted of the first i, and of the others
pub accepted_front : (i : ℕ) (told : List Answered) → accepted told ≡ accepted (take i told) ++ accepted (drop i told)
accepted_front i told = ap accepted (sym (take-append-drop i told)) ∙ filter_map-append accepted_event (take i told) (drop i told)

-- what a channel had behind it then doesn't change when more is behind it
module _ (past next : Past) (ds : List Bool) (opening : next.opening ≡ past.opening) (decisions : next.decisions ≡ past.decisions ++ ds) where
  pub until_kept : (h : List Event) → length (due past.opening h) ≤ length past.decisions → until next h ≡ until past h
  until_kept h fits =
      ap₂ (λ (o : Opening) (d : List Bool). record { opening = o; history = h; decisions = take (length (due o h)) d }) opening decisions
      ∙ ap (λ (d : List Bool). record { opening = past.opening; history = h; decisions = d }) (take-append-le (length (due past.opening h)) past.decisions ds fits)

  pub until_now : length past.decisions ≡ length (due past.opening past.history) → until next past.history ≡ past
  until_now whole =
      until_kept past.history (omega (arith, whole))
      ∙ ap (λ (d : List Bool). record { opening = past.opening; history = past.history; decisions = d }) (ap (λ n. take n past.decisions) (sym whole) ∙ take-length past.decisions)

-- one question more
pub answered_more : (s : Setting) (asked : List Event) (told : List Answered) (past next : Past) (e : Event) (answer : Option Cause) (ds : List Bool)
    → AreAnswered s asked told past → length past.decisions ≡ length (due past.opening past.history)
    → next.opening ≡ past.opening → next.history ≡ past.history ++ accepted ((e, answer) ∷ []) → next.decisions ≡ past.decisions ++ ds
    → IsAnswer s past e answer → AreAnswered s (asked ++ e ∷ []) (told ++ (e, answer) ∷ []) next
answered_more s asked told past next e answer ds a whole opening history decisions is = record {
  asks = map-append (λ (x : Answered). x.0) told ((e, answer) ∷ []) ∙ ap (λ es. es ++ e ∷ []) a.asks;
  history = history ∙ (ap (λ h. h ++ accepted ((e, answer) ∷ [])) a.history ∙ sym (filter_map-append accepted_event told ((e, answer) ∷ [])));
  each = λ i f b at. elim (before_or_last told (e, answer) (f, b) i at) [
    | inl w ↦
        let front : take i (told ++ (e, answer) ∷ []) ≡ take i told = take-append-le i told ((e, answer) ∷ []) (omega (arith, w.0)) in
        let all = ap (λ h. length (due past.opening h)) (a.history ∙ accepted_front i told) in
        let some = due_of_front past.opening (accepted (take i told)) (accepted (drop i told)) in
        let fits : length (due past.opening (accepted (take i told))) ≤ length past.decisions = omega (arith, all, some, whole) in
        let same = ap (λ t. until next (accepted t)) front ∙ until_kept past next ds opening decisions (accepted (take i told)) fits in
        subst (λ (p : Past). IsAnswer s p f b) (sym same) (a.each i f b w.1)
    | inr w ↦
        let front : take i (told ++ (e, answer) ∷ []) ≡ told = ap (λ n. take n (told ++ (e, answer) ∷ [])) w.0 ∙ take-append_seam told ((e, answer) ∷ []) in
        let now = ap (λ t. until next (accepted t)) front ∙ (ap (λ h. until next h) (sym a.history) ∙ until_now past next ds opening decisions whole) in
        let last = subst (λ (p : Past). IsAnswer s p e answer) (sym now) is in
        subst (λ (x : Answered). IsAnswer s (until next (accepted (take i (told ++ (e, answer) ∷ [])))) x.0 x.1) w.1 last
  ];
}

-- none more
pub answered_still : (s : Setting) (asked : List Event) (told : List Answered) (past : Past)
    → AreAnswered s asked told past → AreAnswered s (asked ++ []) (told ++ []) past
answered_still s asked told past a =
    subst (λ es. AreAnswered s es (told ++ []) past) (sym (append-nil asked)) (subst (λ t. AreAnswered s asked t past) (sym (append-nil told)) a)

-- what was asked of a channel, and what it was told, with one step more
pub asked-more : (c : ℕ) (steps : List RunStep) (step : RunStep) → asked_of c (steps ++ step ∷ []) ≡ asked_of c steps ++ asked_at c step
asked-more c steps step = flat_map-append (asked_at c) steps (step ∷ []) ∙ ap (λ es. asked_of c steps ++ es) (append-nil (asked_at c step))

pub told-more : (c : ℕ) (done : List Done) (x : Done) → told_of c (done ++ x ∷ []) ≡ told_of c done ++ told_at c x
told-more c done x = flat_map-append (told_at c) done (x ∷ []) ∙ ap (λ es. told_of c done ++ es) (append-nil (told_at c x))

pub taken-more : (done : List Done) (x : Done) → taken_in (done ++ x ∷ []) ≡ taken_in done ++ taken_at x
taken-more done x = flat_map-append taken_at done (x ∷ []) ∙ ap (λ qs. taken_in done ++ qs) (append-nil (taken_at x))

-- a pump that took the front of what was left, where the same was sent and taken
pub takes_same : (n : ℕ) (sent other : ℕ → List Item) (before others : List (ℕ × Item)) (failed fails : Bool) (qs : List (ℕ × Item))
    → ((c : ℕ) → c < n → sent c ≡ other c) → before ≡ others → (fails ≡ false → failed ≡ false)
    → TakesFront n sent before failed qs → TakesFront n other others fails qs
takes_same n sent other before others failed fails qs same is mono t = record {
  left = t.left;
  as_many = t.as_many;
  leaves = λ c h. ap (λ ps. taken_from c ps ++ of_ring t.left c) (sym is) ∙ (t.leaves c h ∙ same c h);
  front = t.front;
  whole = λ h. t.whole (mono h);
}

module _ (n : ℕ) (settings : ℕ → Setting) (steps : List RunStep) (failed fails : Bool) (past next : ℕ → Past) (done : List Done) (x : Done) (more : ℕ → List Bool)
    (are : AreDone n settings steps failed past done)
    (whole : (c : ℕ) → c < n → length (past c).decisions ≡ length (due (past c).opening (past c).history))
    (opening : (c : ℕ) → (next c).opening ≡ (past c).opening) (decisions : (c : ℕ) → (next c).decisions ≡ (past c).decisions ++ more c) where
  -- what a channel had sent before step i
  sent_then : (c i : ℕ) → c < n → i ≤ length done
      → sent_in (until (next c) (accepted (told_of c (take i (done ++ x ∷ []))))) ≡ sent_in (until (past c) (accepted (told_of c (take i done))))
  sent_then c i within few =
      let front : take i (done ++ x ∷ []) ≡ take i done = take-append-le i done (x ∷ []) few in
      let h = accepted (told_of c (take i done)) in
      let a = are.answered c within in
      let all : told_of c done ≡ told_of c (take i done) ++ told_of c (drop i done) =
      ap (told_of c) (sym (take-append-drop i done)) ∙ flat_map-append (told_at c) (take i done) (drop i done) in
      let history : (past c).history ≡ h ++ accepted (told_of c (drop i done)) =
      a.history ∙ (ap accepted all ∙ filter_map-append accepted_event (told_of c (take i done)) (told_of c (drop i done))) in
      let some = due_of_front (past c).opening h (accepted (told_of c (drop i done))) in
      let full = ap (λ (es : List Event). length (due (past c).opening es)) history in
      let fits : length (due (past c).opening h) ≤ length (past c).decisions = omega (arith, some, full, whole c within) in
      ap (λ ds. sent_in (until (next c) (accepted (told_of c ds)))) front
      ∙ ap sent_in (until_kept (past c) (next c) (more c) (opening c) (decisions c) h fits)

  -- and before the last step
  sent_now : (c : ℕ) → c < n → sent_in (past c) ≡ sent_in (until (next c) (accepted (told_of c done)))
  sent_now c within =
      ap sent_in (sym (until_now (past c) (next c) (more c) (opening c) (decisions c) (whole c within)))
      ∙ ap (λ h. sent_in (until (next c) h)) (are.answered c within).history

  pub done_more : (fails ≡ false → failed ≡ false)
      → ((c : ℕ) → c < n → AreAnswered (settings c) (asked_of c steps ++ asked_at c (step_done x)) (told_of c done ++ told_at c x) (next c))
      → ((qs : List (ℕ × Item)) → x ≡ Pumped qs → TakesFront n (λ c. sent_in (past c)) (taken_in done) fails qs)
      → AreDone n settings (steps ++ step_done x ∷ []) fails next (done ++ x ∷ [])
  done_more mono answered pumped = record {
    steps_done = map-append step_done done (x ∷ []) ∙ ap (λ ss. ss ++ step_done x ∷ []) are.steps_done;
    answered = λ c within.
        subst (λ es. AreAnswered (settings c) es (told_of c (done ++ x ∷ [])) (next c)) (sym (asked-more c steps (step_done x)))
        (subst (λ t. AreAnswered (settings c) (asked_of c steps ++ asked_at c (step_done x)) t (next c)) (sym (told-more c done x)) (answered c within));
    pumped = λ i qs at. elim (before_or_last done x (Pumped qs) i at) [
      | inl w ↦
          let front : take i done ≡ take i (done ++ x ∷ []) = sym (take-append-le i done (x ∷ []) (omega (arith, w.0))) in
          takes_same n _ _ (taken_in (take i done)) (taken_in (take i (done ++ x ∷ []))) failed fails qs
          (λ c within. sym (sent_then c i within (omega (arith, w.0)))) (ap taken_in front) mono (are.pumped i qs w.1)
      | inr w ↦
          let front : done ≡ take i (done ++ x ∷ []) = sym (ap (λ k. take k (done ++ x ∷ [])) w.0 ∙ take-append_seam done (x ∷ [])) in
          takes_same n (λ c. sent_in (past c)) _ (taken_in done) (taken_in (take i (done ++ x ∷ []))) fails fails qs
          (λ c within. sent_now c within ∙ ap (λ ds. sent_in (until (next c) (accepted (told_of c ds)))) front) (ap taken_in front) (λ h. h) (pumped qs w.1)
    ];
  }
