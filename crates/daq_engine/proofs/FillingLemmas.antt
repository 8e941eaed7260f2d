-- Pumps that fill a buffer, between two looks.
use Rattle.std.proofs.Common.{◌≡◌, ℕ, List, ◌++◌, length, sym, ap, subst, ◌∙◌}
use Rattle.std.specs.Prelude.{Result, Ok, Err, IfOk, IfErr}
use Rattle.xcp_base.specs.declared.item.Item.{Item}
use Rattle.frame_writer.specs.Writing.{WriterState}
use Rattle.transmitter.specs.Fills.{Fills, IsInFront, all_taken}
use Rattle.transmitter.specs.Looks.{Looked}
use Rattle.transmitter.specs.Merge.{of_ring}
use Rattle.transmitter.specs.Sinks.{FillsFront, RefusesFill}
use Rattle.transmitter.specs.Written.{HasTaken, TransmitterState}
use Rattle.transmitter.specs.declared.faults.PumpFault.{PumpFault}
use Rattle.transmitter.specs.declared.pumped_all.PumpedAll.{PumpedAll}
use Rattle.transmitter.proofs.DrainLemmas.{LookedAtAll, with_known}
use Rattle.daq_engine.specs.Fillings.{IsFillStep}

-- whatever is answered, the rings stay
pub filled-rings : (old new : List ℕ) (a b d : TransmitterState) (r : Result (PumpedAll × ℕ) PumpFault)
    → IfOk r (FillsFront a b old new) → IfErr r (RefusesFill a b old new) → Looked b d → d.rings ≡ a.rings
filled-rings old new a b d (Ok done) filled refused same = ap (λ (t : TransmitterState). t.rings) same ∙ filled.fills.leads.rings
filled-rings old new a b d (Err fault) filled refused same = ap (λ (t : TransmitterState). t.rings) same ∙ refused.pump.leads.rings

-- looks leave what the writer shows
pub front_between : (a b q d : TransmitterState) (old new : List ℕ) (n : ℕ) → Looked a b → Looked q d
    → IsInFront b.writer.out q.writer.out old new n → IsInFront a.writer.out d.writer.out old new n
front_between a b q d old new n first second front =
    subst (λ o. IsInFront o d.writer.out old new n) (ap (λ (t : TransmitterState). t.writer.out) first)
    (subst (λ o. IsInFront b.writer.out o old new n) (sym (ap (λ (t : TransmitterState). t.writer.out) second)) front)

-- a look, pumps that fill a buffer, and a look
pub fill_between : (sent : List (List Item)) (n from low next high room end : ℕ) (a b q d : TransmitterState) (p : PumpedAll)
    → LookedAtAll sent a b → low ≡ from → length b.known ≡ n → Fills low next room end b q p → LookedAtAll sent q d → high ≡ next → IsFillStep n (of_ring sent) from high room end a d p
fill_between sent n from low next high room end a b q d p first begins many fills second goes_on = record {
  left = b.known;
  as_many = many;
  leaves = λ c h. ap (λ (t : TransmitterState). of_ring t.received c ++ of_ring b.known c) (sym first.same) ∙ first.rest c;
  filled = q;
  fills = subst (λ t. Fills from high room end t q p) first.same (subst (λ k. Fills k high room end b q p) begins (subst (λ k. Fills low k room end b q p) (sym goes_on) fills));
  looks = second.same;
  rest = λ c h. second.rest c;
}

-- such a step takes its items behind those that were taken
pub filled_on : (n : ℕ) (sent : ℕ → List Item) (from next room end : ℕ) (a b : TransmitterState) (p : PumpedAll) (step : IsFillStep n sent from next room end a b p)
    → (start : WriterState) (ps : List (ℕ × Item)) → HasTaken start a ps → HasTaken start b (ps ++ (all_taken step.fills.pumps ++ step.fills.last))
filled_on n sent from next room end a b p step start ps taken =
    let qs = all_taken step.fills.pumps ++ step.fills.last in
    let looked = with_known start a step.left ps taken in
    let filled = step.fills.leads.stands start ps looked in
    subst (λ t. HasTaken start t (ps ++ qs)) (sym step.looks) (with_known start step.filled b.known (ps ++ qs) filled)
