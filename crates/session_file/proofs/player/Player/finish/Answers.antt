use Rattle.std.proofs.Common.{◌+◌, ◌*◌, [], sym, ◌∙◌, arith}
use Rattle.xcp_base.specs.declared.limits.TheConstants.{MAX_CHANNELS}
use Rattle.session_file.specs.Playing.{most_a_line, sending}
use Rattle.session_file.proofs.PlayLemmas.{advances-more, advances-within, hangs}
use Rattle.session_file.proofs.player.Player.finish.Goals as goal

-- the tasks are on the lines of the event channels, which stay
pub close-requires : goal.close-requires
close-requires c = record { tasks = c.requires.tasks ∙ sym c.hang_up.ensures.hangs_up.0 }

-- the slave hangs up, and what came back is collected
pub returns-clause-ends : goal.returns-clause-ends
returns-clause-ends c =
    let was = c.args.self in
    let sent = was.out.contents in
    let closed = c.in_ok-account.ensures.collects in (
      closed.0,
      advances-within (2 + 4 * MAX_CHANNELS) most_a_line (sending was.slave sent) (sending closed.0 sent) [] (omega arith)
          (advances-more 2 (4 * MAX_CHANNELS) (sending was.slave sent) (sending c.hang_up.new.self sent) (sending closed.0 sent) [] []
          (hangs was.slave c.hang_up.new.self sent c.hang_up.ensures.hangs_up)
          (closed.1 sent)),
    )
