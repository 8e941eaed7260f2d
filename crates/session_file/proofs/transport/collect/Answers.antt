use Rattle.std.proofs.Common.{◌+◌, ◌*◌, [], arith}
use Rattle.xcp_base.specs.declared.limits.TheConstants.{MAX_CHANNELS}
use Rattle.session_file.specs.Playing.{sending}
use Rattle.session_file.proofs.PlayLemmas.{advances-more, advances-within, nothing}
use Rattle.session_file.proofs.transport.collect.Goals as goal

pub loop-c-init : goal.loop-c-init
loop-c-init c = λ sent. nothing c.args.slave.now sent

pub loop-c-preserved : goal.loop-c-preserved
loop-c-preserved c =
    λ sent. advances-within (4 * c.loop-c.c + 4) (4 * (c.loop-c.c + 1)) (sending c.args.slave.now sent) (sending c.collect_at.new.slave sent) [] (omega arith)
    (advances-more (4 * c.loop-c.c) 4 (sending c.args.slave.now sent) (sending c.loop-c.slave sent) (sending c.collect_at.new.slave sent) [] []
    (c.loop-c.invariant sent) (c.in_ok-collect_at.ensures.collects sent))

-- there are no more event channels
pub returns : goal.returns
returns c =
    let within = c.loop-c.auto.c-end in
    record {
      collects = λ sent. advances-within (4 * c.loop-c.c) (4 * MAX_CHANNELS) (sending c.args.slave.now sent) (sending c.loop-c.slave sent) [] (omega (arith, within))
          (c.loop-c.invariant sent);
    }
