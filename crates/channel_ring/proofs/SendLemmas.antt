-- The ends of a ring may go to other threads. For callers that move them there.
use denote.Param.Send.{IsSend, sendable}
use Rattle.std.proofs.Crossing.{crosses}
use Rattle.rtrb.proofs.end.End.TheSendSync.{the_send}
pub use Rattle.rtrb.proofs.end.End.TheSendSync.{the_send as ring_end}
use Rattle.channel_ring.specs.contracts.sample_ring.SendHalf as SendHalf
use Rattle.xcp_base.specs.contracts.item.Item as Item

pub item : IsSend Item.the_row
item = search (sendable, crosses) depth 40

pub send_half : IsSend SendHalf.the_row
send_half = search (sendable, crosses, the_send, item) depth 40
