use Rattle.std.proofs.Common.{◌+◌, ◌<◌, [], refl, arith}
use Rattle.session_file.specs.Playing.{sending}
use Rattle.session_file.proofs.PlayLemmas.{advances-more, advances-within, came-back, nothing, silent}
use Rattle.session_file.proofs.transport.collect_at.Goals as goal

pub loop-found-init : goal.loop-found-init
loop-found-init c = record { collected = λ sent. nothing c.args.slave.now sent; few = omega arith }

pub loop-found-preserved : goal.loop-found-preserved
loop-found-preserved c =
    let more : c.loop-found.found < 4 = c.loop-found-test.true in
    record {
      collected = λ sent. advances-more c.loop-found.found 1 (sending c.args.slave.now sent) (sending c.loop-found.slave sent) (sending c.take_back.new.self sent) [] []
          (c.loop-found.invariant.collected sent) (came-back c.loop-found.slave c.take_back.new.self c.args.c sent c.in-Some.finished c.in-Some.ensures.back c.in_ok-add.ensures.finished);
      few = omega (arith, more);
    }

pub returns-in_default : goal.returns-in_default
returns-in_default c =
    let more : c.loop-found.found < 4 = c.loop-found-test.true in
    record {
      collects = λ sent. advances-within (c.loop-found.found + 0) 4 (sending c.args.slave.now sent) (sending c.take_back.new.self sent) [] (omega (arith, more))
          (advances-more c.loop-found.found 0 (sending c.args.slave.now sent) (sending c.loop-found.slave sent) (sending c.take_back.new.self sent) [] []
          (c.loop-found.invariant.collected sent) (silent 0 c.loop-found.slave c.take_back.new.self [] sent [] (omega arith) (c.in_default.ensures.back.none refl) refl refl));
    }

pub returns : goal.returns
returns c =
    let few = c.loop-found.invariant.few in
    record {
      collects = λ sent. advances-within c.loop-found.found 4 (sending c.args.slave.now sent) (sending c.loop-found.slave sent) [] (omega (arith, few)) (c.loop-found.invariant.collected sent);
    }
