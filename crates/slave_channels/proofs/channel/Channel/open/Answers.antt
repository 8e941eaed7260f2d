use Rattle.std.proofs.Common.{refl}
use Rattle.frame_ring.specs.States.{take_state}
use Rattle.slave_channels.proofs.PartLemmas.{opens, room-of}
use Rattle.slave_channels.proofs.channel.Channel.open.Goals as goal

pub returns-clause-ok : goal.returns-clause-ok
returns-clause-ok c =
    opens _ _ _ _ _ _ _ _ _ _ c.args.number c.in-Ok.sampler (take_state c.in-Ok.take) c.new.result c.of.result c.self.view_is c.in-Ok.ensures.opened c.in_default-hand_out.ensures.ok c.keep_newest.ensures.newer c.keep_newest.ensures.older c.new.ensures.stands c.new.ensures.end c.of.ensures
    (room-of c.self.inside.link _ _ _ refl c.self.invariant.0 c.self.invariant.1 c.in_default-hand_out.ensures.answer)
