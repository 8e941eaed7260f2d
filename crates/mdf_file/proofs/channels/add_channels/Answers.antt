use Rattle.std.proofs.Common.{arith}
use Rattle.mdf_file.proofs.ChannelLemmas.{channel_more}
use Rattle.mdf_file.proofs.channels.add_channels.Goals as goal

-- one channel more, in front of those that follow it
pub loop-behind-preserved : goal.loop-behind-preserved
loop-behind-preserved c =
    channel_more c.args.base _ c.loop-behind.next c.args.out.now.items c.loop-behind.out.items
    c.add_channel.new.out.items c.args.channels.now c.loop-behind.behind
    c.index-channels-channels.result (omega arith) c.index-channels-channels.is
    c.loop-behind.invariant c.in_ok-next.ensures
