-- The line of a list in the account.
use Rattle.std.proofs.Common.{◌≡◌, ℕ, ◌-◌, ◌≤◌, Bool, true, false, List, [], ◌∷◌, ◌++◌, length, refl, sym, ap, ◌∙◌, subst, arith}
use Rattle.std.specs.Prelude.{if◌then◌else◌, Option, Some, None}
use mathlib.Core.List.{IsPrefix}
use Rattle.std.proofs.lemmas.Option.{none-some}
use Rattle.xcp_base.specs.declared.item.Item.{Item}
use Rattle.xcp_base.specs.declared.item.Item.TheVariants.{Marker, Sample}
use Rattle.sampler.specs.Decisions.{pairs_of}
use Rattle.transmitter.specs.Items.{count_of, samples}
use Rattle.transmitter.proofs.TakenLemmas.{count_of-append, samples-append}
use Rattle.copy_plan.specs.Config.{IsPlan}
use Rattle.sampler.specs.History.{due, is_list_of}
use Rattle.sampler.specs.Past.{Past}
use Rattle.sampler.specs.Tracks.{counts_after, counts_of}
use Rattle.sampler.specs.declared.counts.ListCounts.{ListCounts}
use Rattle.daq_engine.specs.Inner.Lines.{line}
use Rattle.daq_engine.specs.Order.{items_of}
use Rattle.daq_engine.specs.Overload.{decided_of}
use Rattle.daq_engine.proofs.AccountLemmas.{accepted_are_sent, accepted_or_dropped, due_count}
use Rattle.daq_engine.proofs.PidLemmas.{all-indexed}
use Rattle.slave_outbox.specs.Accounts.{HasPlans, IsLineOf}
use Rattle.slave_outbox.specs.Deeds.{Deed, Started, Stopped, Took, Unsent, passed, passes, taken, written_by}

-- no more samples of a list were written than were taken
pub written-le-taken : (l : ℕ) (deeds : List Deed) → count_of l (passed deeds) ≤ count_of l (samples (taken deeds))
written-le-taken l [] = omega arith
written-le-taken l (Started k ∷ deeds) = written-le-taken l deeds
written-le-taken l (Stopped k ∷ deeds) = written-le-taken l deeds
written-le-taken l (Took (Marker m) ∷ deeds) =
    let more = written-le-taken l deeds in
    let split = ap (count_of l) (samples-append (taken deeds) (Marker m ∷ [])) ∙ count_of-append l (samples (taken deeds)) [] in
    omega (arith, more, split)
written-le-taken l (Took (Sample s) ∷ deeds) =
    let more = written-le-taken l deeds in
    let split = ap (count_of l) (samples-append (taken deeds) (Sample s ∷ [])) ∙ count_of-append l (samples (taken deeds)) (s ∷ []) in
    let last = count_of-append l (passed deeds) (s ∷ []) in
    elim (passes deeds s.list) as (λ b. count_of l (if b then passed deeds ++ s ∷ [] else passed deeds) ≤ count_of l (samples (taken deeds ++ Sample s ∷ []))) [
      | true ↦ omega (arith, more, split, last)
      | false ↦ omega (arith, more, split)
    ]
written-le-taken l (Unsent k ∷ deeds) = written-le-taken l deeds

-- nor more than were sent
pub written-le-sent : (l : ℕ) (deeds : List Deed) (sent : List Item) → IsPrefix (taken deeds) sent → count_of l (passed deeds) ≤ count_of l (samples sent)
written-le-sent l deeds sent front =
    let split = ap (λ xs. count_of l (samples xs)) (sym front.1) ∙ ap (count_of l) (samples-append (taken deeds) front.0) ∙ count_of-append l (samples (taken deeds)) (samples front.0) in
    omega (arith, written-le-taken l deeds, split)

-- the numbers of a list add up
pub line-stands : (past : Past) (deeds : List Deed) (l : ℕ) → HasPlans past → length past.decisions ≡ length (due past.opening past.history) → IsPrefix (taken deeds) (items_of past)
    → IsLineOf past deeds l (line l (written_by deeds l) (counts_of (pairs_of l (decided_of past))))
unfolding counts_of
line-stands past deeds l plans decided_all front =
    let pairs = pairs_of l (decided_of past) in
    let accepted = accepted_are_sent past l (all-indexed IsPlan past.opening.plans plans) in
    let few = written-le-sent l deeds (items_of past) front in
    record {
      of_list = refl;
      due_is = due_count l (due past.opening past.history) past.decisions decided_all;
      dropped = refl;
      written = refl;
      left = omega (arith, accepted, few);
      adds_up = omega (arith, accepted, few, accepted_or_dropped pairs);
    }

some_of : (b : Bool) (a x : ListCounts) → (if b then Some x else None) ≡ Some a → a ≡ x
some_of true a x e = cc
some_of false a x e = absurd (none-some a e)

-- the counts of a list that has some are those of its pairs
pub counts-are : (past : Past) (l : ℕ) (o : Option ListCounts) (counts : ListCounts) → o ≡ Some counts → o ≡ counts_after past l → counts ≡ counts_of (pairs_of l (decided_of past))
counts-are past l o counts is after = some_of (is_list_of past.opening l) counts (counts_of (pairs_of l (decided_of past))) (sym after ∙ is)

-- what was taken, and is still received, begins what the past sent
pub front-taken : (past : Past) (deeds : List Deed) (was now known sent all : List Item) → now ≡ was → now ++ known ≡ all → all ≡ sent → was ≡ taken deeds → sent ≡ items_of past → IsPrefix (taken deeds) (items_of past)
front-taken past deeds was now known sent all stays left same is sends =
    (known, ap (λ xs. xs ++ known) (sym (stays ∙ is)) ∙ left ∙ same ∙ sends)

-- the line of a list with these counts, of which so many samples were written
pub line-of : (past : Past) (deeds : List Deed) (l : ℕ) (counts : ListCounts) (written left : ℕ) → counts ≡ counts_of (pairs_of l (decided_of past)) → written ≡ written_by deeds l → left ≡ counts.accepted - written
    → HasPlans past → length past.decisions ≡ length (due past.opening past.history) → IsPrefix (taken deeds) (items_of past)
    → IsLineOf past deeds l (record { list = l; due = counts.due; written = written; dropped = counts.dropped; left = left })
line-of past deeds l counts written left same is rest plans decided_all front =
    let P : ListCounts → ℕ → ℕ → Type 0 = λ k w r. IsLineOf past deeds l (record { list = l; due = k.due; written = w; dropped = k.dropped; left = r }) in
    subst (λ r. P counts written r) (sym rest)
    (subst (λ k. P k written (k.accepted - written)) (sym same)
    (subst (λ w. P (counts_of (pairs_of l (decided_of past))) w ((counts_of (pairs_of l (decided_of past))).accepted - w)) (sym is)
    (line-stands past deeds l plans decided_all front)))
