-- A slave that lends its tasks, and a task that was handed out, may go to other threads. For callers
-- that move them there.
use denote.RattleType.{RattleType}
use denote.Param.Send.{AllSend, IsSend, owning_send, sendable, struct_send, recorded_send, view_send}
use denote.Struct.Declared.{shape}
use denote.Struct.Struct.{exits_of}
use denote.Struct.Owning.{shape as owned_shape, fields as owned_fields, to}
use Rattle.std.proofs.Crossing.{crosses, frees}
use Rattle.std_alloc.proofs.SendSync.{quiet}
use Rattle.std.specs.contracts.alloc.Global as Global
use Rattle.std.specs.contracts.impls.GlobalAllocator.TheImpl.{ghosts as heap_ghosts}
use Rattle.circular_buffer.proofs.Crosses.{Cells-send, Deed-send}
use Rattle.circular_buffer.specs.contracts.cells.Cells as Cells
use Rattle.circular_buffer.specs.contracts.cells.Deed as Deed
use Rattle.circular_buffer.specs.contracts.heap.HeapCircularBuffer as Buffer
use Rattle.circular_buffer.specs.contracts.heap.HeapCircularBuffer.TheInside as BufferInside
use Rattle.circular_buffer.specs.contracts.ring.Ring as Ring
use Rattle.channel_ring.proofs.SendLemmas.{ring_end}
use Rattle.frame_ring.specs.contracts.frame_left.FrameLeft as FrameLeft
use Rattle.frame_ring.specs.contracts.frame_left.FrameLeftRingEnd.TheImpl.{ghosts as ring}
use Rattle.frame_ring.specs.contracts.frame_send.FrameSend as FrameSend
use Rattle.frame_ring.specs.contracts.frame_send.FrameSendSendEnd.TheImpl.{ghosts as send}
use Rattle.frame_ring.specs.contracts.frame_take.FrameTake as FrameTake
use Rattle.slave_outbox.specs.contracts.intake.Intake as Intake
use Rattle.slave_outbox.specs.contracts.outbox.Outbox as Outbox
use Rattle.slave_outbox.specs.contracts.origin.Origin as Origin
use Rattle.slave_outbox.specs.contracts.sent_log.SentLog as Log
use Rattle.frame_page.specs.contracts.page.FramePage as Page
use Rattle.frame_page.specs.contracts.unit.Unit as Unit
use Rattle.session.specs.contracts.session.Session as Session
use Rattle.slave_channels.specs.contracts.account.Account as Account
use Rattle.slave.specs.contracts.plan.Plan as Plan
use Rattle.slave.specs.contracts.slave.Slave as Slave
use Rattle.slave_channels.specs.contracts.channel.Channel as Channel
use Rattle.slave_channels.specs.contracts.channels.Channels as Channels
use Rattle.slave_channels.specs.contracts.share.Share as Share
use Rattle.slave.specs.contracts.stream.MasterStream as MasterStream
use Rattle.tasks.specs.contracts.link.TaskLink as TaskLink
use Rattle.tasks.specs.contracts.task.Task as Task
use Rattle.tasks.specs.contracts.task_end.TaskEnd as TaskEnd
use Rattle.hand_over.proofs.SendLemmas.{coming_send, way_send}
use Rattle.tasks.proofs.SendLemmas.{link_send, task_end_send, task_send}
use Rattle.slave_lending.specs.contracts.lending_slave.LendingSlave as LendingSlave
use Rattle.slave_lending.specs.contracts.lent_task.LentTask as LentTask
use Rattle.slave_lending.specs.contracts.slot.Slot as Slot

session_send : IsSend Session.the_row
session_send = search (sendable, crosses) depth 60 fits 20000

abbrev unit_row : RattleType
unit_row = Unit.the_row Origin.the_row

deed_send : IsSend (Deed.the_row unit_row Global.the_row heap_ghosts)
deed_send = Deed-send unit_row Global.the_row heap_ghosts frees

cells_send : IsSend (Cells.the_row unit_row)
cells_send = Cells-send unit_row (search (sendable, crosses) depth 40)

ring_send : IsSend (Ring.the_field unit_row Global.the_row heap_ghosts).row
ring_send = search (sendable, crosses, cells_send, deed_send) depth 60 fits 20000

inside_send : IsSend (BufferInside.the_row unit_row Global.the_row heap_ghosts)
inside_send =
    let inside = BufferInside.the_type unit_row Global.the_row heap_ghosts in
    recorded_send _ _ _ inside.to_one (struct_send (shape inside) (ring_send, tt))

buffer_send : IsSend (Buffer.the_row unit_row Global.the_row heap_ghosts)
buffer_send = view_send _ _ _ _ _ inside_send

page_send : IsSend (Page.the_row Origin.the_row)
page_send = search (sendable, crosses, buffer_send) depth 60 fits 20000

-- lists of bytes of which none is kept own nothing
log_send : IsSend Log.the_row
log_send =
    let all : AllSend (owned_fields Log.the_type) = (search sendable, tt) in
    owning_send Log.the_type all (λ d. tt)
    (λ k. quiet (to Log.the_type) (exits_of k (owned_fields Log.the_type)) ((struct_send (owned_shape Log.the_type) all).leaving k))

outbox_send : IsSend Outbox.the_row
outbox_send = search (sendable, crosses, page_send, log_send) depth 60 fits 20000

plan_send : IsSend Plan.the_row
plan_send = search (sendable, crosses) depth 60 fits 20000

account_send : IsSend Account.the_row
account_send = search (sendable, crosses) depth 60 fits 20000

stream_send : IsSend MasterStream.the_row
stream_send = search (sendable, crosses) depth 60 fits 20000

-- the ends of a ring of frames
frame_send : IsSend FrameSend.the_row
frame_send = search (sendable, crosses, ring_end) depth 60 fits 20000

frame_take : IsSend FrameTake.the_field.row
frame_take = search (sendable, crosses, ring_end) depth 60 fits 20000

frame_left : IsSend FrameLeft.the_row
frame_left = search (sendable, crosses, ring_end) depth 60 fits 20000

intake_send : IsSend Intake.the_row
intake_send = search (sendable, crosses, frame_take) depth 60 fits 20000

share_send : IsSend Share.the_row
share_send = search (sendable, crosses, intake_send) depth 60 fits 20000

-- a task, what is left of it, and the slave's end of its line
task_goes : IsSend (Task.the_row FrameSend.the_row FrameLeft.the_row send ring)
task_goes = task_send FrameSend.the_row FrameLeft.the_row send ring frame_send frame_left

end_goes : IsSend (TaskEnd.the_row FrameSend.the_row FrameLeft.the_row send ring)
end_goes = task_end_send FrameSend.the_row FrameLeft.the_row send ring frame_send frame_left

link_goes : IsSend (TaskLink.the_row FrameSend.the_row FrameLeft.the_row send ring)
link_goes = link_send FrameSend.the_row FrameLeft.the_row send ring frame_send frame_left

pub lent_task_send : IsSend LentTask.the_row
lent_task_send = search (sendable, crosses, way_send, task_goes, end_goes) depth 60 fits 20000

slot_send : IsSend Slot.the_row
slot_send = search (sendable, crosses, coming_send, task_goes, end_goes) depth 60 fits 20000

channel_send : IsSend Channel.the_row
channel_send = search (sendable, crosses, link_goes, share_send) depth 60 fits 20000

channels_send : IsSend Channels.the_row
channels_send = search (sendable, crosses, channel_send) depth 60 fits 20000

slave_send : IsSend Slave.the_row
slave_send = search (sendable, crosses, session_send, outbox_send, plan_send, account_send, channels_send) depth 60 fits 20000

pub lending_slave_send : IsSend LendingSlave.the_row
lending_slave_send = search (sendable, crosses, slave_send, stream_send, slot_send, end_goes) depth 60 fits 20000
