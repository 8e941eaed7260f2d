-- A step as a run lends it.
use Rattle.run_file.specs.declared.step.Step.{Step}
use Rattle.run_file.specs.declared.step.Step.TheVariants as lent
use Rattle.run_file.specs.Steps.{StepData, trigger, start, stop, pump}

-- what it does
abbrev pub step_data : Step → StepData
step_data (lent.Trigger c s image) = trigger c s image.now
step_data (lent.Start c l) = start c l
step_data (lent.Stop c l) = stop c l
step_data lent.Pump = pump
