use Rattle.std.proofs.Common.{arith}
use Rattle.slave_channels.proofs.RoomLemmas.{frames_bound}
use Rattle.slave_channels.proofs.ring_ends.blocks_of.Goals as goal

pub sample_blocks-requires : goal.sample_blocks-requires
sample_blocks-requires c = omega (arith, c.frames_len.ensures.value, frames_bound c.args.plan.now c.odts.ensures.plan)

pub returns-clause-few : goal.returns-clause-few
returns-clause-few c = omega (arith, c.sample_blocks.ensures.value, c.frames_len.ensures.value, frames_bound c.args.plan.now c.odts.ensures.plan)
