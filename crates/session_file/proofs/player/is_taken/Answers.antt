use Rattle.std.proofs.Common.{◌∙◌, ap, sym, arith}
use Rattle.tasks.specs.Tasks.{TaskState}
use Rattle.session_file.proofs.TaskLemmas.{lines-set}
use Rattle.session_file.proofs.player.is_taken.Goals as goal

-- a task that took a trigger is on its line
pub returns-clause-lines : goal.returns-clause-lines
returns-clause-lines c =
    lines-set c.args.tasks.now c.args.channel c.index-tasks-c.result c.trigger.new.self c.index-tasks-c.is
    (omega (arith, c.if-c-tasks.false)) (c.trigger.ensures.line ∙ sym (ap (λ (t : TaskState _). t.ring) c.index-tasks-c.is))
