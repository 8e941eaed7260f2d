-- Deeds, one by one, and what each leaves of the DAQ lists.
use Rattle.std.proofs.Common.{◌≡◌, ◌≢◌, ℕ, ◌+◌, ◌<◌, ◌≤◌, Bool, true, false, cond, eqb, inl, inr, List, [], ◌∷◌, ◌++◌, length, refl, sym, ap, ◌∙◌, subst, arith, suc}
use Rattle.std.specs.Prelude.{count_by, slice_get, Some, if◌then◌else◌}
use Rattle.std.proofs.Math.Nat.{min-eq_left}
use Rattle.std.proofs.lemmas.Bool.Decides.{eqb_tells}
use Rattle.std.proofs.lemmas.List.Sums.{count_by-le-length, sum_by-cons}
use Rattle.xcp_base.specs.Samples.{MarkParts, SampleParts}
use Rattle.xcp_base.specs.declared.item.Item.TheVariants.{Marker, Sample}
use Rattle.xcp_base.specs.declared.limits.TheConstants.{MAX_LISTS, MAX_TAKEN}
use Rattle.frame_ring.specs.Ends.{TakeState}
use Rattle.transmitter.specs.Items.{count_of}
use Rattle.transmitter.proofs.TakenLemmas.{count_of-append}
use Rattle.slave_outbox.specs.Deeds.{Deed, Started, Stopped, Took, Unsent, is_mark_of, is_stop_of, is_unsent_of, marks_of, passed, passes, stops_of, taken, unsent_of}
use Rattle.slave_outbox.specs.Intakes.{GoesOn, IntakeState, StandsAfter, list_after}
use Rattle.slave_outbox.specs.IntakeInner.{Changes, capped, lets_pass, marked, started, stopped, threw, wrote}
use Rattle.slave_outbox.specs.declared.list_intake.ListIntake.{ListIntake}

-- what is kept of a list is what its fields say
kept_by : (a b : ListIntake) → a.runs ≡ b.runs → a.stops ≡ b.stops → a.marks ≡ b.marks → a.written ≡ b.written → a.unsent ≡ b.unsent → a ≡ b
kept_by a b r s m w u =
    ap (λ x. record a { runs = x }) r
    ∙ ap (λ x. record a { runs = b.runs; stops = x }) s
    ∙ ap (λ x. record a { runs = b.runs; stops = b.stops; marks = x }) m
    ∙ ap (λ x. record a { runs = b.runs; stops = b.stops; marks = b.marks; written = x }) w
    ∙ ap (λ x. record a { runs = b.runs; stops = b.stops; marks = b.marks; written = b.written; unsent = x }) u

-- one more that a test takes, or doesn't
count-yes : {X : Type 0} (p : X → Bool) (x : X) (xs : List X) → p x ≡ true → count_by p (x ∷ xs) ≡ count_by p xs + 1
count-yes p x xs yes_x = sum_by-cons (λ y. cond (p y) 1 0) x xs ∙ ap (λ b. cond b 1 0 + count_by p xs) yes_x ∙ omega arith

count-no : {X : Type 0} (p : X → Bool) (x : X) (xs : List X) → p x ≡ false → count_by p (x ∷ xs) ≡ count_by p xs
count-no p x xs no_x = sum_by-cons (λ y. cond (p y) 1 0) x xs ∙ ap (λ b. cond b 1 0 + count_by p xs) no_x ∙ omega arith

count-last : (l : ℕ) (ss : List SampleParts) (s : SampleParts) → count_of l (ss ++ s ∷ []) ≡ count_of l ss + cond (eqb s.list l) 1 0
count-last l ss s = count_of-append l ss (s ∷ []) ∙ omega arith

pub same_some : {A : Type 0} (x y : A) → Some x ≡ Some y → x ≡ y
same_some x y e = cc

pub same_list : (k : ℕ) → eqb k k ≡ true
same_list k = elim (eqb_tells k k) [ inl w ↦ w.0 | inr w ↦ absurd (w.1 refl) ]

pub other_list : (k l : ℕ) → l ≢ k → eqb k l ≡ false
other_list k l other = elim (eqb_tells k l) [ inl w ↦ absurd (other (sym w.1)) | inr w ↦ w.0 ]

-- counts are no more than the deeds
written-few : (l : ℕ) (deeds : List Deed) → count_of l (passed deeds) ≤ length deeds
written-few l [] = omega arith
written-few l (Started k ∷ deeds) = omega (arith, written-few l deeds)
written-few l (Stopped k ∷ deeds) = omega (arith, written-few l deeds)
written-few l (Unsent k ∷ deeds) = omega (arith, written-few l deeds)
written-few l (Took (Marker m) ∷ deeds) = omega (arith, written-few l deeds)
written-few l (Took (Sample s) ∷ deeds) =
    let more = written-few l deeds in
    let one : cond (eqb s.list l) 1 0 ≤ 1 = elim (eqb s.list l) as (λ b. cond b 1 0 ≤ 1) [ true ↦ omega arith | false ↦ omega arith ] in
    elim (passes deeds s.list) as (λ b. count_of l (if b then passed deeds ++ s ∷ [] else passed deeds) ≤ suc (length deeds)) [
      | true ↦ omega (arith, more, one, count-last l (passed deeds) s)
      | false ↦ omega (arith, more)
    ]

-- a count that is few is kept as it is
capped-few : (n m : ℕ) → n ≤ m → m < MAX_TAKEN → capped (n + 1) ≡ n + 1
capped-few n m few less = min-eq_left (omega (arith, few, less))

-- what is kept behind a start, a stop, an item
after-start : (k : ℕ) (deeds : List Deed) → list_after (Started k ∷ deeds) k ≡ started (list_after deeds k)
after-start k deeds = kept_by _ _
    (rw (same_list k) refl)
    (count-no (is_stop_of k) (Started k) deeds refl)
    (count-no (is_mark_of k) (Started k) deeds refl)
    refl
    (count-no (is_unsent_of k) (Started k) deeds refl)

after-start_other : (k l : ℕ) (deeds : List Deed) → l ≢ k → list_after (Started k ∷ deeds) l ≡ list_after deeds l
after-start_other k l deeds other = kept_by _ _
    (rw (other_list k l other) refl)
    (count-no (is_stop_of l) (Started k) deeds refl)
    (count-no (is_mark_of l) (Started k) deeds refl)
    refl
    (count-no (is_unsent_of l) (Started k) deeds refl)

after-stop : (k : ℕ) (deeds : List Deed) → length deeds < MAX_TAKEN → list_after (Stopped k ∷ deeds) k ≡ stopped (list_after deeds k)
after-stop k deeds less = kept_by _ _
    (rw (same_list k) refl)
    (count-yes (is_stop_of k) (Stopped k) deeds (same_list k) ∙ sym (capped-few (stops_of deeds k) (length deeds) (count_by-le-length (is_stop_of k) deeds) less))
    (count-no (is_mark_of k) (Stopped k) deeds refl)
    refl
    (count-no (is_unsent_of k) (Stopped k) deeds refl)

after-stop_other : (k l : ℕ) (deeds : List Deed) → l ≢ k → list_after (Stopped k ∷ deeds) l ≡ list_after deeds l
after-stop_other k l deeds other = kept_by _ _
    (rw (other_list k l other) refl)
    (count-no (is_stop_of l) (Stopped k) deeds (other_list k l other))
    (count-no (is_mark_of l) (Stopped k) deeds refl)
    refl
    (count-no (is_unsent_of l) (Stopped k) deeds refl)

after-marker : (m : MarkParts) (deeds : List Deed) → length deeds < MAX_TAKEN → list_after (Took (Marker m) ∷ deeds) m.list ≡ marked (list_after deeds m.list)
after-marker m deeds less = kept_by _ _
    refl
    (count-no (is_stop_of m.list) (Took (Marker m)) deeds refl)
    (count-yes (is_mark_of m.list) (Took (Marker m)) deeds (same_list m.list) ∙ sym (capped-few (marks_of deeds m.list) (length deeds) (count_by-le-length (is_mark_of m.list) deeds) less))
    refl
    (count-no (is_unsent_of m.list) (Took (Marker m)) deeds refl)

after-marker_other : (m : MarkParts) (l : ℕ) (deeds : List Deed) → l ≢ m.list → list_after (Took (Marker m) ∷ deeds) l ≡ list_after deeds l
after-marker_other m l deeds other = kept_by _ _
    refl
    (count-no (is_stop_of l) (Took (Marker m)) deeds refl)
    (count-no (is_mark_of l) (Took (Marker m)) deeds (other_list m.list l other))
    refl
    (count-no (is_unsent_of l) (Took (Marker m)) deeds refl)

after-skipped : (s : SampleParts) (l : ℕ) (deeds : List Deed) → passes deeds s.list ≡ false → list_after (Took (Sample s) ∷ deeds) l ≡ list_after deeds l
after-skipped s l deeds held = kept_by _ _
    refl
    (count-no (is_stop_of l) (Took (Sample s)) deeds refl)
    (count-no (is_mark_of l) (Took (Sample s)) deeds refl)
    (ap (λ b. count_of l (if b then passed deeds ++ s ∷ [] else passed deeds)) held)
    (count-no (is_unsent_of l) (Took (Sample s)) deeds refl)

after-wrote : (s : SampleParts) (deeds : List Deed) → length deeds < MAX_TAKEN → passes deeds s.list ≡ true → list_after (Took (Sample s) ∷ deeds) s.list ≡ wrote (list_after deeds s.list)
after-wrote s deeds less may =
    let l = s.list in
    kept_by _ _
    refl
    (count-no (is_stop_of l) (Took (Sample s)) deeds refl)
    (count-no (is_mark_of l) (Took (Sample s)) deeds refl)
    (ap (λ b. count_of l (if b then passed deeds ++ s ∷ [] else passed deeds)) may
    ∙ count-last l (passed deeds) s
    ∙ ap (λ b. count_of l (passed deeds) + cond b 1 0) (same_list l)
    ∙ sym (capped-few (count_of l (passed deeds)) (length deeds) (written-few l deeds) less))
    (count-no (is_unsent_of l) (Took (Sample s)) deeds refl)

after-wrote_other : (s : SampleParts) (l : ℕ) (deeds : List Deed) → l ≢ s.list → passes deeds s.list ≡ true → list_after (Took (Sample s) ∷ deeds) l ≡ list_after deeds l
after-wrote_other s l deeds other may = kept_by _ _
    refl
    (count-no (is_stop_of l) (Took (Sample s)) deeds refl)
    (count-no (is_mark_of l) (Took (Sample s)) deeds refl)
    (ap (λ b. count_of l (if b then passed deeds ++ s ∷ [] else passed deeds)) may
    ∙ count-last l (passed deeds) s
    ∙ ap (λ b. count_of l (passed deeds) + cond b 1 0) (other_list s.list l other)
    ∙ omega arith)
    (count-no (is_unsent_of l) (Took (Sample s)) deeds refl)

after-unsent : (k : ℕ) (deeds : List Deed) → length deeds < MAX_TAKEN → list_after (Unsent k ∷ deeds) k ≡ threw (list_after deeds k)
after-unsent k deeds less = kept_by _ _
    refl
    (count-no (is_stop_of k) (Unsent k) deeds refl)
    (count-no (is_mark_of k) (Unsent k) deeds refl)
    refl
    (count-yes (is_unsent_of k) (Unsent k) deeds (same_list k) ∙ sym (capped-few (unsent_of deeds k) (length deeds) (count_by-le-length (is_unsent_of k) deeds) less))

after-unsent_other : (k l : ℕ) (deeds : List Deed) → l ≢ k → list_after (Unsent k ∷ deeds) l ≡ list_after deeds l
after-unsent_other k l deeds other = kept_by _ _
    refl
    (count-no (is_stop_of l) (Unsent k) deeds refl)
    (count-no (is_mark_of l) (Unsent k) deeds refl)
    refl
    (count-no (is_unsent_of l) (Unsent k) deeds (other_list k l other))

-- a list of which so much is kept lets samples pass where the deeds do
pub lets_pass-after : (deeds : List Deed) (l : ℕ) → lets_pass (list_after deeds l) ≡ passes deeds l
lets_pass-after deeds l = refl

-- what is kept of list k changes so with a deed, and nothing else: then the intake goes on with it
goes_on-by : (a b : IntakeState) (deed : Deed) (k : ℕ) (f : ListIntake → ListIntake) → Changes a.lists b.lists k f
    → ((deeds : List Deed) → length deeds < MAX_TAKEN → StandsAfter a deeds → b.end.received ≡ taken (deed ∷ deeds))
    → ((deeds : List Deed) → length deeds < MAX_TAKEN → StandsAfter a deeds → list_after (deed ∷ deeds) k ≡ f (list_after deeds k))
    → ((deeds : List Deed) (l : ℕ) → StandsAfter a deeds → l ≢ k → list_after (deed ∷ deeds) l ≡ list_after deeds l)
    → GoesOn a b deed
goes_on-by a b deed k f changes received here others deeds less before = record {
  few = omega (arith, less);
  received = received deeds less before;
  lists = λ l below. elim (eqb_tells l k) [
    | inl w ↦
        let kept : slice_get b.lists k ≡ Some (f (list_after deeds k)) = changes.here (list_after deeds k) (before.lists k (subst (λ x. x < MAX_LISTS) w.1 below)) in
        subst (λ x. slice_get b.lists x ≡ Some (list_after (deed ∷ deeds) x)) (sym w.1) (kept ∙ ap Some (sym (here deeds less before)))
    | inr w ↦ changes.others l w.1 ∙ before.lists l below ∙ ap Some (sym (others deeds l before w.1))
  ];
}

pub goes_on-start : (a b : IntakeState) (k : ℕ) → Changes a.lists b.lists k started → b.end ≡ a.end → GoesOn a b (Started k)
goes_on-start a b k changes same = goes_on-by a b (Started k) k started changes
    (λ deeds less before. ap (λ (e : TakeState). e.received) same ∙ before.received)
    (λ deeds less before. after-start k deeds)
    (λ deeds l before other. after-start_other k l deeds other)

pub goes_on-stop : (a b : IntakeState) (k : ℕ) → Changes a.lists b.lists k stopped → b.end ≡ a.end → GoesOn a b (Stopped k)
goes_on-stop a b k changes same = goes_on-by a b (Stopped k) k stopped changes
    (λ deeds less before. ap (λ (e : TakeState). e.received) same ∙ before.received)
    (λ deeds less before. after-stop k deeds less)
    (λ deeds l before other. after-stop_other k l deeds other)

pub goes_on-unsent : (a b : IntakeState) (k : ℕ) → Changes a.lists b.lists k threw → b.end ≡ a.end → GoesOn a b (Unsent k)
goes_on-unsent a b k changes same = goes_on-by a b (Unsent k) k threw changes
    (λ deeds less before. ap (λ (e : TakeState). e.received) same ∙ before.received)
    (λ deeds less before. after-unsent k deeds less)
    (λ deeds l before other. after-unsent_other k l deeds other)

pub goes_on-marker : (a b : IntakeState) (m : MarkParts) → Changes a.lists b.lists m.list marked → b.end.received ≡ a.end.received ++ Marker m ∷ [] → GoesOn a b (Took (Marker m))
goes_on-marker a b m changes gains = goes_on-by a b (Took (Marker m)) m.list marked changes
    (λ deeds less before. gains ∙ ap (λ xs. xs ++ Marker m ∷ []) before.received)
    (λ deeds less before. after-marker m deeds less)
    (λ deeds l before other. after-marker_other m l deeds other)

pub goes_on-wrote : (a b : IntakeState) (s : SampleParts) → Changes a.lists b.lists s.list wrote → b.end.received ≡ a.end.received ++ Sample s ∷ []
    → ((deeds : List Deed) → StandsAfter a deeds → passes deeds s.list ≡ true) → GoesOn a b (Took (Sample s))
goes_on-wrote a b s changes gains may = goes_on-by a b (Took (Sample s)) s.list wrote changes
    (λ deeds less before. gains ∙ ap (λ xs. xs ++ Sample s ∷ []) before.received)
    (λ deeds less before. after-wrote s deeds less (may deeds before))
    (λ deeds l before other. after-wrote_other s l deeds other (may deeds before))

pub goes_on-skipped : (a b : IntakeState) (s : SampleParts) → b.lists ≡ a.lists → b.end.received ≡ a.end.received ++ Sample s ∷ []
    → ((deeds : List Deed) → StandsAfter a deeds → passes deeds s.list ≡ false) → GoesOn a b (Took (Sample s))
goes_on-skipped a b s same gains held deeds less before = record {
  few = omega (arith, less);
  received = gains ∙ ap (λ xs. xs ++ Sample s ∷ []) before.received;
  lists = λ l below.
      ap (λ xs. slice_get xs l) same ∙ before.lists l below ∙ ap Some (sym (after-skipped s l deeds (held deeds before)));
}

-- a sample of a list that there can't be tells nothing
pub stands-beyond : (i : IntakeState) (l : ℕ) (deeds : List Deed) → MAX_LISTS ≤ l → length deeds < MAX_TAKEN → StandsAfter i deeds → StandsAfter i (Unsent l ∷ deeds)
stands-beyond i l deeds beyond less stands = record {
  few = omega (arith, less);
  received = stands.received;
  lists = λ k below. stands.lists k below ∙ ap Some (sym (after-unsent_other l k deeds (λ same. omega (arith, same, below, beyond))));
}
