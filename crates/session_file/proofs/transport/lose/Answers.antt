use Rattle.std.proofs.Common.{[], refl, arith}
use Rattle.slave.specs.Taking.{most_taken}
use Rattle.session_file.specs.Playing.{sending}
use Rattle.session_file.proofs.PlayLemmas.{advances-more, silent, takes}
use Rattle.session_file.proofs.transport.lose.Goals as goal

-- items are taken, and what is shown changes nothing
pub returns : goal.returns
returns c =
    record {
      shows = λ sent. advances-more most_taken 0 (sending c.args.slave.now sent) (sending c.take.new.self sent) (sending c.peek.new.self sent) [] []
          (takes c.args.slave.now c.take.new.self sent c.take.ensures.takes)
          (silent 0 c.take.new.self c.peek.new.self [] sent [] (omega arith) c.peek.ensures.stays refl refl);
    }
