use Rattle.slave_channels.proofs.OrderingLemmas.{stop-others}
use Rattle.slave_channels.proofs.channel.Channel.stop_one.Goals as goal

pub returns-then-wanted-clause-others : goal.returns-then-wanted-clause-others
returns-then-wanted-clause-others c = λ k different.
    stop-others _ _ c.args.l k c.stop.ensures.orders.sends (c.requires.runs c.if-wanted.true) different
