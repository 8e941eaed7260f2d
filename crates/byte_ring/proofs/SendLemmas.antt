-- The ends of a ring of bytes may go to other threads. For callers that move them there.
use denote.Param.Send.{IsSend, sendable}
use Rattle.std.proofs.Crossing.{crosses}
use Rattle.rtrb.proofs.end.End.TheSendSync.{the_send}
use Rattle.byte_ring.specs.contracts.byte_send.ByteSend as ByteSend
use Rattle.byte_ring.specs.contracts.byte_left.ByteLeft as ByteLeft

pub byte_send : IsSend ByteSend.the_row
byte_send = search (sendable, crosses, the_send) depth 40

pub byte_left : IsSend ByteLeft.the_row
byte_left = search (sendable, crosses, the_send) depth 40
