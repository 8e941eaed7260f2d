-- The samples of all lists, each with the place of its list, and the recording that they are.
use Rattle.std.proofs.Common.{◌≡◌, ◌≢◌, ℕ, zero, suc, ◌+◌, ◌<◌, ◌≤◌, ◌==◌, inl, inr, Bool, true, false, cond, List, [], ◌∷◌, ◌++◌, length, map, Option, Some, None, refl, sym, ap, ◌∙◌, arith, subst}
use Rattle.std.specs.Prelude.{filter, slice_get}
use Rattle.std.specs.List.{AllByRecursion}
use mathlib.Core.List.{IsPrefix}
use Rattle.std.proofs.lemmas.Bool.Decides.{eqb_tells, nat_tests}
use Rattle.std.proofs.lemmas.List.{append-nil, map-append}
use Rattle.std.proofs.lemmas.List.Elements.{All-from_recursion, filter-append}
use Rattle.copy_plan.specs.Config.{ListPlan}
use Rattle.frame_writer.specs.Writing.{WriterState}
use Rattle.sampler.specs.Past.{Past}
use Rattle.sampler.specs.State.{JoinedEnd}
use Rattle.transmitter.specs.Merge.{of_ring}
use Rattle.transmitter.specs.Written.{TransmitterState}
use Rattle.daq_engine.specs.Configuration.{IsConfiguration}
use Rattle.daq_engine.specs.Frames.{IsTornAt, packets_of_frames}
use Rattle.daq_engine.specs.Headline.{Headline, KeepsChannel}
use Rattle.daq_engine.specs.declared.report.Report.{Report}
use Rattle.daq_engine.specs.Order.{held_of, items_of}
use Rattle.daq_engine.proofs.OrderLemmas.{end_at}
use Rattle.daq_engine.proofs.PidLemmas.{all-append}
use Rattle.daq_reader.specs.Lists.{given, of_place, place_in}
use Rattle.daq_reader.specs.Recorded.{Recorded}
use Rattle.daq_reader.specs.Recording.{AreWhole}
use Rattle.recording.specs.Accepted.{HasImages, recorded_of}
use Rattle.recording.specs.Laws.{IsReadBack, IsRecordingOfFirst, WrittenIsReadBack}
use Rattle.recording.specs.Plans.{AreAllPlans}
use Rattle.recording.proofs.FrameLemmas.{all_fit, length-packets_of_frames, whole-text}
use Rattle.recording.proofs.ListLemmas.{all_of_one, channel-one, list_is_whole}
use Rattle.recording.proofs.PlaceLemmas.{IsOfOne, all-as, of_place-of_list, place_known, the_same}

-- the samples, all at one place
abbrev at_place : ℕ → List Recorded → List (ℕ × Recorded)
at_place n rs = map (λ (r : Recorded). (n, r)) rs

given-append : (i : ℕ) (xs ys : List (ℕ × Recorded)) → given i (xs ++ ys) ≡ given i xs ++ given i ys
given-append i xs ys =
    ap (map (λ (s : ℕ × Recorded). s.1)) (filter-append (λ (s : ℕ × Recorded). s.0 == i) xs ys)
    ∙ map-append (λ (s : ℕ × Recorded). s.1) (filter (λ (s : ℕ × Recorded). s.0 == i) xs) (filter (λ (s : ℕ × Recorded). s.0 == i) ys)

given-own : (n i : ℕ) (rs : List Recorded) → (n == i) ≡ true → given i (at_place n rs) ≡ rs
given-own n i [] e = refl
given-own n i (r ∷ rs) e =
    let rest : List (ℕ × Recorded) = filter (λ (s : ℕ × Recorded). s.0 == i) (at_place n rs) in
    ap (λ (b : Bool). map (λ (s : ℕ × Recorded). s.1) (cond b ((n, r) ∷ rest) rest)) e
    ∙ ap (λ xs. r ∷ xs) (given-own n i rs e)

given-other : (n i : ℕ) (rs : List Recorded) → (n == i) ≡ false → given i (at_place n rs) ≡ []
given-other n i [] e = refl
given-other n i (r ∷ rs) e =
    let rest : List (ℕ × Recorded) = filter (λ (s : ℕ × Recorded). s.0 == i) (at_place n rs) in
    ap (λ (b : Bool). map (λ (s : ℕ × Recorded). s.1) (cond b ((n, r) ∷ rest) rest)) e
    ∙ given-other n i rs e

placed : (n k : ℕ) (rs : List Recorded) → n < k → AllByRecursion (λ (s : ℕ × Recorded). s.0 < k) (at_place n rs)
placed n k [] h = tt
placed n k (r ∷ rs) h = (h, placed n k rs h)

is_other : (a b : ℕ) → a ≢ b → (a == b) ≡ false
is_other a b h = grind (arith, nat_tests)

absent : (p : ListPlan) → None ≡ Some p → ⊥
absent p at = cc

-- where there are samples for the list at each place, there is one list of all of them
module _ (P : ℕ → ListPlan → List Recorded → Type 0) (plans : List ListPlan) (some : (i : ℕ) (p : ListPlan) → slice_get plans i ≡ Some p → (rs : List Recorded) × P i p rs) where
  record Slot (i : ℕ) (o : Option ListPlan) : Type 0 where
    pub samples : List Recorded
    pub good : (p : ListPlan) → o ≡ Some p → P i p samples

  abbrev slot_of : (i : ℕ) (o : Option ListPlan) → slice_get plans i ≡ o → Slot i o
  slot_of i None e = record { samples = []; good = λ p at. absurd (absent p at) }
  slot_of i (Some x) e = record {
    samples = (some i x e).0;
    good = λ p at. subst (λ (r : ListPlan). P i r (some i x e).0) (the_same x p at) (some i x e).1;
  }

  abbrev slot : (i : ℕ) → Slot i (slice_get plans i)
  slot i = slot_of i (slice_get plans i) refl

  abbrev gathered : ℕ → List (ℕ × Recorded)
  gathered zero = []
  gathered (suc n) = gathered n ++ at_place n (slot n).samples

  none_yet : (n i : ℕ) → n ≤ i → given i (gathered n) ≡ []
  none_yet zero i h = refl
  none_yet (suc n) i h =
      given-append i (gathered n) (at_place n (slot n).samples)
      ∙ ap (λ xs. xs ++ given i (at_place n (slot n).samples)) (none_yet n i (omega (arith, h)))
      ∙ given-other n i (slot n).samples (is_other n i (λ same. absurd (omega (arith, same, h))))

  all_there : (n i : ℕ) → i < n → given i (gathered n) ≡ (slot i).samples
  all_there zero i h = absurd (omega (arith, h))
  all_there (suc n) i h =
      given-append i (gathered n) (at_place n (slot n).samples)
      ∙ elim (eqb_tells n i) [
        | inl w ↦
            ap (λ xs. xs ++ given i (at_place n (slot n).samples)) (none_yet n i (omega (arith, w.1)))
            ∙ given-own n i (slot n).samples w.0
            ∙ ap (λ k. (slot k).samples) w.1
        | inr w ↦
            ap (λ xs. given i (gathered n) ++ xs) (given-other n i (slot n).samples w.0)
            ∙ append-nil (given i (gathered n))
            ∙ all_there n i (omega (arith, h, w.1))
      ]

  all_placed : (n : ℕ) → AllByRecursion (λ (s : ℕ × Recorded). s.0 < n) (gathered n)
  all_placed zero = tt
  all_placed (suc n) =
      all-append (λ (s : ℕ × Recorded). s.0 < suc n) (gathered n) (at_place n (slot n).samples)
      (all-as (λ (s : ℕ × Recorded). s.0 < n) (λ (s : ℕ × Recorded). s.0 < suc n) (gathered n) (λ s h. omega (arith, h)) (all_placed n))
      (placed n (suc n) (slot n).samples (omega arith))

  below : (xs : List ListPlan) (i : ℕ) (p : ListPlan) → slice_get xs i ≡ Some p → i < length xs
  below [] i p at = absurd cc
  below (x ∷ xs) zero p at = omega arith
  below (x ∷ xs) (suc i) p at = omega (arith, below xs i p at)

  gathered-good : (i : ℕ) (p : ListPlan) → slice_get plans i ≡ Some p → P i p (given i (gathered (length plans)))
  gathered-good i p at = subst (P i p) (sym (all_there (length plans) i (below plans i p at))) ((slot i).good p at)

module _ (start : WriterState) (t : TransmitterState) (ends : List JoinedEnd) (past : ℕ → Past) (report : Report) (plans : List ListPlan)
    (conf : IsConfiguration (length ends) (λ c. (past c).opening)) (head : Headline start t ends past report)
    (images : (c : ℕ) → c < length ends → HasImages (past c)) (all : AreAllPlans (length ends) past plans) where
  abbrev written : List (List ℕ)
  written = packets_of_frames head.frames

  abbrev kept : (c : ℕ) → c < length ends → (e : JoinedEnd) × KeepsChannel t e c (past c) written
  kept c below = let e = end_at ends c below in (e.0, head.settled.each c e.0 e.1)

  one : AllByRecursion (IsOfOne plans) written
  one =
      all_of_one (length ends) past conf plans all written head.settled.of_some (λ c below.
      let k = (kept c below).1 in
      channel-one (length ends) past conf plans all c (of_ring t.received c) t.hand written k.front below k.order)

  -- the samples of the list at a place
  record AreOfPlace (i : ℕ) (p : ListPlan) (rs : List Recorded) : Type 0 where
    pub whole : AreWhole p rs (of_place plans i written)
    pub first : (c k : ℕ) → c < length ends → slice_get (past c).opening.plans k ≡ Some p → IsPrefix rs (recorded_of (past c) p)
    pub all_given : (c k : ℕ) → c < length ends → slice_get (past c).opening.plans k ≡ Some p → of_ring t.received c ≡ items_of (past c) → t.hand ≡ None → rs ≡ recorded_of (past c) p

  some_at : (i : ℕ) (p : ListPlan) → slice_get plans i ≡ Some p → (rs : List Recorded) × AreOfPlace i p rs
  some_at i p at =
      let w = all.no_other i p at in
      let k = (kept w.0 w.2).1 in
      let l = list_is_whole (length ends) past conf w.0 w.1 p w.2 w.3 (of_ring t.received w.0) t.hand written k.front k.order (images w.0 w.2) in (
        l.samples,
        record {
          whole = subst (AreWhole p l.samples) (sym (of_place-of_list plans i p written at one)) l.whole;
          first = λ c j below there. subst (λ e. IsPrefix l.samples (recorded_of (past e) p)) (conf.once w.0 c w.1 j p p w.2 below w.3 there refl).0 l.first;
          all_given = λ c j below there received empty.
              let own : w.0 ≡ c = (conf.once w.0 c w.1 j p p w.2 below w.3 there refl).0 in
              let here : of_ring t.received w.0 ≡ items_of (past w.0) = subst (λ e. of_ring t.received e ≡ items_of (past e)) (sym own) received in
              let front : k.front ≡ items_of (past w.0) = sym (append-nil k.front) ∙ (ap (λ h. k.front ++ held_of w.0 h) (sym empty) ∙ (k.order.all_received ∙ here)) in
              subst (λ e. l.samples ≡ recorded_of (past e) p) own (l.all front);
        },
      )

  abbrev all_samples : List (ℕ × Recorded)
  all_samples = gathered AreOfPlace plans some_at (length plans)

  is_recording : IsRecordingOfFirst (length ends) past plans all_samples (record { rest = head.settled.whole; counter = start.counter })
  is_recording =
      let good : (i : ℕ) (p : ListPlan) → slice_get plans i ≡ Some p → AreOfPlace i p (given i all_samples) = gathered-good AreOfPlace plans some_at in
      record {
        recording = record {
          packets = written;
          legal = all_fit head.frames head.settled.written.split.legal;
          bytes = whole-text start t.writer t.hand report.failed head.settled.whole head.frames head.settled.written;
          are = record {
            known = All-from_recursion (λ (q : List ℕ). place_in plans q < length plans) written (all-as (IsOfOne plans) (λ q. place_in plans q < length plans) written (λ q o. place_known plans q o) one);
            each = λ i p at. (good i p at).whole;
          };
        };
        of_lists = All-from_recursion (λ (s : ℕ × Recorded). s.0 < length plans) all_samples (all_placed AreOfPlace plans some_at (length plans));
        first = λ i c k p at below there. (good i p at).first c k below there;
      }

  is_read_back : IsReadBack (length ends) past plans start t report.failed
  unfolding is_recording
  is_read_back = record {
    samples = all_samples;
    whole = head.settled.whole;
    behind = head.settled.written.behind;
    gained = head.settled.written.gained;
    read = is_recording;
    all_given = λ i c k p at below there. (gathered-good AreOfPlace plans some_at i p at).all_given c k below there;
    none_behind = head.settled.written.none_behind;
    torn = λ failed. subst (λ n. IsTornAt (start.counter + n) t.hand head.settled.written.behind) (sym (length-packets_of_frames head.frames)) (head.settled.written.torn failed);
  }

pub written_is_read_back : WrittenIsReadBack
written_is_read_back start t ends past report plans conf head images all = is_read_back start t ends past report plans conf head images all
