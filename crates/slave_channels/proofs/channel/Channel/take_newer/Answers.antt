use Rattle.std.specs.Prelude.{IfSome}
use Rattle.std.proofs.Common.{subst}
use Rattle.tasks.proofs.TurnLemmas.{some-with}
use Rattle.slave_channels.specs.Channels.{ChannelState, IsBackOf}
use Rattle.slave_channels.proofs.PartLemmas.{comes-of, is-back}
use Rattle.slave_channels.proofs.channel.Channel.take_newer.Goals as goal

-- what came back is of the part's ring
pub finish-requires : goal.finish-requires
finish-requires c =
    let (away, is, back) = c.in_ok-end.ensures.back in
    record { came = comes-of away _ _ _ _ is c.self.invariant.1 back.came }

pub returns-clause-back : goal.returns-clause-back
returns-clause-back c =
    let (away, is, back) = c.in_ok-end.ensures.back in
    subst (λ (x : ChannelState). IfSome c.finish.result (IsBackOf x.link c.take_newer.new.self x.link.newer x.newer)) c.self.view_is
    (some-with (λ f done. is-back _ _ away _ _ _ _ f is c.self.invariant.1 back done) c.finish.result c.finish.ensures.some)
