use Rattle.std.proofs.Common.{subst, sym}
use Rattle.frame_ring.specs.declared.frame_send.FrameSend.{FrameSend}
use Rattle.tasks.specs.Links.{LinkState}
use Rattle.slave_channels.specs.Channels.{Fits}
use Rattle.slave_channels.proofs.PartLemmas.{fits-ordered}
use Rattle.slave_channels.proofs.channel.Channel.start.Goals as goal

pub invariant_of-self : goal.invariant_of-self
invariant_of-self c = (
  subst (λ (l : LinkState FrameSend). Fits l.older c.self.inside.older) (sym c.start.ensures.rest_stays) c.self.invariant.0,
  fits-ordered _ _ _ _ _ c.self.invariant.1 c.start.ensures.sends c.note_start.ensures.end_stays,
)
