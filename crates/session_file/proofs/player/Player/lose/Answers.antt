use Rattle.std.proofs.Common.{[], arith}
use Rattle.slave.specs.Taking.{most_taken}
use Rattle.session_file.specs.Playing.{most_a_line, sending}
use Rattle.session_file.proofs.PlayLemmas.{advances-within}
use Rattle.session_file.proofs.player.Player.lose.Goals as goal

pub returns-clause-loses : goal.returns-clause-loses
returns-clause-loses c =
    let was = c.args.self.now in
    let sent = was.out.contents in
    advances-within most_taken most_a_line (sending was.slave sent) (sending c.lose.new.slave sent) [] (omega arith) (c.lose.ensures.shows sent)
