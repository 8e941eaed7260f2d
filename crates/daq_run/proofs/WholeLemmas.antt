-- A run whose rings held all wrote all.
use Rattle.std.proofs.Common.{◌≡◌, ℕ, zero, suc, true, false, not, cond, List, [], ◌∷◌, length, replicate, refl, sym, ap, ap₂, subst, ◌∙◌, arith}
use Rattle.std.specs.Prelude.{count_by, zip}
use Rattle.std.proofs.lemmas.List.Sums.{sum_by-cons}
use Rattle.copy_plan.specs.Config.{ListPlan}
use Rattle.sampler.specs.Decisions.{Decided, is_of_list, pairs_of}
use Rattle.sampler.specs.History.{due}
use Rattle.sampler.specs.Past.{Past}
use Rattle.sampler.specs.State.{JoinedEnd}
use Rattle.transmitter.specs.Merge.{of_ring}
use Rattle.daq_engine.specs.Account.{IsLineOf}
use Rattle.daq_engine.specs.Frames.{packets_of_frames}
use Rattle.daq_engine.specs.declared.report.ListReport.{ListReport}
use Rattle.daq_run.proofs.AskLemmas.{sampler_at}
use Rattle.daq_run.specs.Ample.{ample_past, no_drops}
use Rattle.daq_run.specs.Runs.{settings_of_run}
use Rattle.daq_run.specs.Whole.{AmpleRunsAreWhole, IsWholeLine, WritesWhole}

-- where all was accepted, nothing of a list was dropped
none_dropped : (l n : ℕ) (xs : List (ℕ × ℕ)) → count_by (λ (pair : Decided). not pair.1) (pairs_of l (zip xs (replicate n true))) ≡ 0
none_dropped l n [] = refl
none_dropped l zero (x ∷ xs) = refl
none_dropped l (suc n) (x ∷ xs) =
    let later = none_dropped l n xs in
    let rest : List Decided = pairs_of l (zip xs (replicate n true)) in
    elim (is_of_list l (x, true)) as (λ b. count_by (λ (pair : Decided). not pair.1) (cond b ((x, true) ∷ rest) rest) ≡ 0) [
      | true ↦ sum_by-cons (λ (pair : Decided). cond (not pair.1) 1 0) (x, true) rest ∙ omega (arith, later)
      | false ↦ later
    ]

-- the line of such a list
whole_line : (past : Past) (plan : ListPlan) (qs : List (List ℕ)) (line : ListReport) (sent received : _) (hand : _)
    → past.decisions ≡ no_drops past.opening past.history → IsLineOf past plan qs sent received hand line → line.left ≡ 0 → IsWholeLine past plan line
whole_line past plan qs line sent received hand all is left =
    let dropped : line.dropped ≡ 0 = is.dropped ∙ (ap (λ d. count_by (λ (pair : Decided). not pair.1) (pairs_of plan.list (zip (due past.opening past.history) d))) all ∙ none_dropped plan.list (length (due past.opening past.history)) (due past.opening past.history)) in
    record {
      of_plan = is.of_plan;
      due = is.due;
      written = omega (arith, is.adds_up, dropped, left);
      dropped = dropped;
      left = left;
    }

pub ample_runs : AmpleRunsAreWhole
ample_runs run writer past taken t report after closed drain good c within asked told drops =
    let ends = closed.ends in
    let one = sampler_at ends c (let many = closed.as_many in omega (arith, within, many)) in
    let e : JoinedEnd = one.0 in
    let nothing = closed.nothing_left drain good in
    let h = closed.closed.headline in
    let all : (past c).decisions ≡ no_drops (past c).opening (past c).history = drops.decisions ∙ ap (no_drops (past c).opening) (sym drops.history) in
    let own : WritesWhole (past c) (packets_of_frames h.frames) report.lists.items = record {
      packets = nothing.all_written c e one.1;
      lines = λ i plan at.
          let found = h.account.each c i e plan one.1 at in
          let left : found.1.left ≡ 0 = ap (λ (line : ListReport). line.left) (sym found.3) ∙ nothing.none_left found.0 found.1 found.2 in
          (found.0, found.1, found.2, found.3, whole_line (past c) plan (packets_of_frames h.frames) found.1 e.sent (of_ring closed.closed.last.received c) closed.closed.last.hand all found.4 left);
    } in
    let same : (past c) ≡ ample_past (settings_of_run run c) (past c).opening asked = ap₂ (λ hs d. record { opening = (past c).opening; history = hs; decisions = d }) drops.history drops.decisions in
    subst (λ p. WritesWhole p (packets_of_frames h.frames) report.lists.items) same own
