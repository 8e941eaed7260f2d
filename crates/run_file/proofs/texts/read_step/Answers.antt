use Rattle.run_file.specs.Inner.{wording_data}
use Rattle.run_file.proofs.RunLemmas.{no_image, no_wording, on_ok-map, step_gained}
use Rattle.run_file.proofs.texts.read_step.Goals as goal

-- what has no wording is no step
pub returns-in_default-clause-no_step : goal.returns-in_default-clause-no_step
returns-in_default-clause-no_step c _ = no_wording c.args.last c.args.text.now c.in_default.ensures.value

-- the wording with its image is the step
pub returns-clause-ok : goal.returns-clause-ok
returns-clause-ok c =
    on_ok-map c.push.result
    (step_gained c.args.last c.args.text.now (wording_data c.in-Some.step) _ _ c.in-Some.ensures.value) c.push.ensures.ok

-- and where the image is none, neither is the step
pub returns-clause-no_step : goal.returns-clause-no_step
returns-clause-no_step c fault =
    no_image c.args.last c.args.text.now (wording_data c.in-Some.step) c.in-Some.ensures.value (c.push.ensures.no_step fault)
