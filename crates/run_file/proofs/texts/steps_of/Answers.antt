use Rattle.std.proofs.Common.{◌≡◌, ◌+◌, length, Err, refl, ap, ◌∙◌, subst, inr}
use Rattle.run_file.specs.Reading.{HasNone}
use Rattle.run_file.specs.Steps.{IsStepText}
use Rattle.run_file.specs.Inner.{text_in}
use Rattle.run_file.proofs.ReadLemmas.{first_bad, read_more}
use Rattle.run_file.proofs.texts.steps_of.Goals as goal

-- the refused step left the list as it was: its place is how many there are
pub returns-in-Err-NoStep-clause-err : goal.returns-in-Err-NoStep-clause-err
returns-in-Err-NoStep-clause-err c =
    let size : c.len.result ≡ length c.loop-value.steps = c.len.ensures ∙ ap length (c.in-Err-NoStep.ensures.stays (ap Err c.in-Err-NoStep.field-0-is)) in
    let none = subst (λ t. HasNone (IsStepText (c.args.last + 1) t)) c.text_in.ensures
    (c.in-Err-NoStep.ensures.no_step (ap Err c.in-Err-NoStep.field-0-is)) in
    inr (
      c.len.result,
      refl,
      first_bad (IsStepText (c.args.last + 1)) text_in c.args.values.now c.loop-value.value-index c.value-item.result
          c.loop-value.steps c.len.result size c.loop-value-test.true c.value-item.is c.loop-value.invariant none,
    )

-- one more step was read
pub loop-value-preserved : goal.loop-value-preserved
loop-value-preserved c =
    let gains = c.in-Ok-read_step.ensures.ok in
    read_more (IsStepText (c.args.last + 1)) text_in c.args.values.now c.loop-value.value-index c.value-item.result
    c.loop-value.steps c.read_step.new.steps gains.value c.loop-value-test.true c.value-item.is c.loop-value.invariant
    (subst (λ t. IsStepText (c.args.last + 1) t gains.value) c.text_in.ensures gains.is) gains.at_end
