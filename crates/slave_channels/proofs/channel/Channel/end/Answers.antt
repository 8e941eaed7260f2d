use Rattle.std.proofs.Common.{subst, ap, ◌∙◌}
use Rattle.tasks.specs.Links.{EndsNewest, takes_orders}
use Rattle.slave_channels.specs.Channels.{ChannelState}
use Rattle.slave_channels.proofs.channel.Channel.end.Goals as goal

pub returns-clause-ends : goal.returns-clause-ends
returns-clause-ends c = λ takes.
    subst (λ (x : ChannelState). EndsNewest x.link c.end.new.self) c.self.view_is
    (c.end.ensures.ends (ap (λ (x : ChannelState). takes_orders x.link.newer) c.self.view_is ∙ takes))
