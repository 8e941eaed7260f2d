use Rattle.std.proofs.Common.{[], arith}
use Rattle.session_file.specs.Playing.{most_a_line, sending}
use Rattle.session_file.proofs.PlayLemmas.{advances-within, hangs}
use Rattle.session_file.proofs.player.Player.hang_up.Goals as goal

-- that the master is lost, and what waits thrown away, are two acts at most, which send nothing
pub returns-clause-hangs_up : goal.returns-clause-hangs_up
returns-clause-hangs_up c =
    let was = c.args.self.now in
    advances-within 2 most_a_line (sending was.slave was.out.contents) (sending c.hang_up.new.self was.out.contents) [] (omega arith)
    (hangs was.slave c.hang_up.new.self was.out.contents c.hang_up.ensures.hangs_up)
