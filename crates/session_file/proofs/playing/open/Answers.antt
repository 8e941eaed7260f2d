use Rattle.std.proofs.Common.{ap, ◌∙◌}
use Rattle.slave_channels.specs.Calls.{rings_of}
use Rattle.session_file.specs.Playing.{lines_of}
use Rattle.session_file.proofs.TaskLemmas.{begun-lines}
use Rattle.session_file.proofs.playing.open.Goals as goal

-- tasks that were just begun are on the lines of the event channels
pub returns-in-Ok-clause-tasks : goal.returns-in-Ok-clause-tasks
returns-in-Ok-clause-tasks c = ap lines_of c.in-Ok.ensures.tasks ∙ begun-lines (rings_of c.in-Ok.slave.channels)
