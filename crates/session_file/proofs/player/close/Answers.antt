use Rattle.std.proofs.Common.{[], sym, ◌∙◌}
use Rattle.session_file.proofs.player.close.Goals as goal

-- what is left of the tasks is on the lines of the event channels, which stay
pub close-closed-requires : goal.close-closed-requires
close-closed-requires c = record {
  tasks = c.in_ok-left.ensures.lines ∙ c.requires.tasks ∙ sym (c.in_ok-collect.ensures.collects []).lines;
}

-- what came back is collected
pub returns : goal.returns
returns c = record { collects = (c.collect.new.slave, λ sent. c.in_ok-collect.ensures.collects sent) }
