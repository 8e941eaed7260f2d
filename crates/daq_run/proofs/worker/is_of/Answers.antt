use Rattle.std.proofs.Common.{ap, sym}
use Rattle.run_file.specs.Lent.{step_data}
use Rattle.daq_run.specs.Steps.{run_step}
use Rattle.daq_run.specs.Inner.Workers.{is_of}
use Rattle.daq_run.proofs.worker.is_of.Goals as goal

-- each kind of step names its event channel
pub returns-in-Trigger : goal.returns-in-Trigger
returns-in-Trigger c = sym (ap (λ s. is_of c.args.c (run_step (step_data s))) c.in-Trigger.is)

pub returns-in-Start : goal.returns-in-Start
returns-in-Start c = sym (ap (λ s. is_of c.args.c (run_step (step_data s))) c.in-Start.is)

pub returns-in-Stop : goal.returns-in-Stop
returns-in-Stop c = sym (ap (λ s. is_of c.args.c (run_step (step_data s))) c.in-Stop.is)

pub returns-in-Pump : goal.returns-in-Pump
returns-in-Pump c = sym (ap (λ s. is_of c.args.c (run_step (step_data s))) c.in-Pump.is)
