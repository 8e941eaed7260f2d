-- A task may go to another thread, and what is left of it may come back, where the ends of its rings
-- of samples may. For callers that move them there.
use denote.RattleType.{RattleType}
use denote.Param.Send.{IsSend, sendable}
use Rattle.std.proofs.Crossing.{crosses}
use Rattle.channel_ring.proofs.SendLemmas.{item, ring_end, send_half}
use Rattle.channel_ring.specs.contracts.sample_ring.SendHalf as SendHalf
use Rattle.channel_ring.specs.contracts.sample_ring.SendHalfSendEnd.TheImpl.{ghosts as half_ghosts}
use Rattle.channel_ring.specs.contracts.sample_ring.SendLeftRingEnd.TheImpl.{ghosts as left_ghosts}
use Rattle.std.specs.contracts.alloc.Global as Global
use Rattle.std.specs.contracts.impls.GlobalAllocator.TheImpl.{ghosts as heap_ghosts}
use Rattle.rtrb.specs.contracts.AnyItems as AnyItems
use Rattle.rtrb.specs.contracts.AnyItemsProtocol.TheImpl.{ghosts as any_items}
use Rattle.rtrb.specs.contracts.finished.Finished as Finished
use Rattle.xcp_base.specs.contracts.item.Item as Item
use Rattle.channel_ring.specs.declared.ends.SendEnd.{Ghosts as SendGhosts}
use Rattle.channel_ring.specs.declared.ends.RingEnd.{Ghosts as EndGhosts}
use Rattle.copy_plan.specs.contracts.plan.CopyPlan as CopyPlan
use Rattle.channel_ring.specs.contracts.order.Order as Order
use Rattle.channel_ring.specs.contracts.control_send.ControlSend as ControlSend
use Rattle.channel_ring.specs.contracts.control_take.ControlTake as ControlTake
use Rattle.hand_over.proofs.SendLemmas.{borrower_send, lender_send}
use Rattle.tasks.specs.contracts.away.Away as Away
use Rattle.tasks.specs.contracts.handed.Handed as Handed
use Rattle.tasks.specs.contracts.lost.Lost as Lost
use Rattle.tasks.specs.contracts.link.TaskLink as TaskLink
use Rattle.tasks.specs.contracts.task.Task as Task
use Rattle.tasks.specs.contracts.task_end.TaskEnd as TaskEnd

copy_plan : IsSend CopyPlan.the_row
copy_plan = search (sendable, crosses) depth 40

order_send : IsSend Order.the_row
order_send = search (sendable, crosses) depth 40

take_send : IsSend ControlTake.the_row
take_send = search (sendable, crosses, ring_end, order_send) depth 60 fits 20000

sending_send : IsSend ControlSend.the_row
sending_send = search (sendable, crosses, ring_end, order_send) depth 60 fits 20000

lost_send : IsSend Lost.the_row
lost_send = search (sendable, crosses) depth 40

module _ (S E : RattleType) (send : SendGhosts S.Denot E.Denot) (ring : EndGhosts E.Denot) (s_goes : IsSend S) (e_goes : IsSend E) where
  handed_send : IsSend (Handed.the_row S E send ring)
  handed_send = search (sendable, crosses, copy_plan, take_send) depth 60 fits 20000

  pub task_send : IsSend (Task.the_row S E send ring)
  task_send = search (sendable, crosses, borrower_send, handed_send, copy_plan, take_send, lost_send) depth 60 fits 20000

  pub task_end_send : IsSend (TaskEnd.the_row S E send ring)
  task_end_send = search (sendable, crosses, borrower_send, handed_send, copy_plan, take_send, lost_send) depth 60 fits 20000

  away_send : IsSend (Away.the_row S E send ring)
  away_send = search (sendable, crosses, copy_plan, take_send, sending_send, lost_send, ring_end) depth 60 fits 20000

  pub link_send : IsSend (TaskLink.the_row S E send ring)
  link_send = search (sendable, crosses, lender_send, handed_send, away_send, copy_plan, take_send, lost_send) depth 60 fits 20000

-- what is left of the send end of a ring of items
abbrev Left : RattleType
Left = Finished.the_row Item.the_row Global.the_row AnyItems.the_row heap_ghosts (any_items Item.the_row)

left_send : IsSend Left
left_send = search (sendable, crosses, ring_end, item) depth 60 fits 20000

pub half_task : IsSend (Task.the_row SendHalf.the_row Left half_ghosts left_ghosts)
half_task = task_send SendHalf.the_row Left half_ghosts left_ghosts send_half left_send

pub half_task_end : IsSend (TaskEnd.the_row SendHalf.the_row Left half_ghosts left_ghosts)
half_task_end = task_end_send SendHalf.the_row Left half_ghosts left_ghosts send_half left_send
