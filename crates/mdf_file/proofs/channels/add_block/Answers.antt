use Rattle.mdf_file.proofs.ChannelLemmas.{adds_channel_block}
use Rattle.mdf_file.proofs.channels.add_block.Goals as goal

-- the block was appended
pub returns : goal.returns
returns c = (
  c.read.ensures.fits,
  adds_channel_block c.args.base _ c.args.out.now.items c.push_channel.new.out.items
      c.args.block.now c.requires.some c.in_ok-place.ensures c.requires.aligned
      c.read.ensures.links c.in_ok-push_channel.ensures.ok,
)
