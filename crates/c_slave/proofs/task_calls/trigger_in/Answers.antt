use Rattle.c_slave.proofs.OnLemmas.{on_task}
use Rattle.c_slave.proofs.task_calls.trigger_in.Goals as goal

-- what holds of the task holds of the content that it is
pub returns-in-Task : goal.returns-in-Task
returns-in-Task c = on_task _ _ _ c.in-Task.is c.trigger.ensures
