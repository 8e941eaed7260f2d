-- Ends of lines and ways back may go to another thread, where what goes over them may. For callers that move
-- them there.
use denote.RattleType.{RattleType}
use denote.Param.Send.{IsSend, IsSync, sendable, struct_send, struct_sync, recorded_send, recorded_sync}
use denote.Struct.Declared.{shape}
use denote.Builtin.{unit}
use Rattle.std.proofs.Crossing.{crosses}
use Rattle.rtrb.proofs.end.End.TheSendSync.{the_send as ring_end}
use Rattle.std.specs.contracts.alloc.Global as Global
use Rattle.std.specs.contracts.impls.GlobalAllocator.TheImpl.{ghosts as heap_ghosts}
use Rattle.hand_over.specs.declared.rule.Rule.{Ghosts as RuleOf}
use Rattle.hand_over.specs.contracts.coming_back.ComingBack as ComingBack
use Rattle.hand_over.specs.contracts.borrower.Borrower as Borrower
use Rattle.hand_over.specs.contracts.lender.Lender as Lender
use Rattle.hand_over.specs.contracts.parcel.Parcel as Parcel
use Rattle.hand_over.specs.contracts.returns.Return as Return
use Rattle.hand_over.specs.contracts.way_back.WayBack as WayBack
use Rattle.atomic_table.specs.declared.shared.TableRule.{Ghosts as TableGhosts}
use Rattle.atomic_table.specs.contracts.owned.Table as Table
use Rattle.crossbeam_queue.specs.contracts.array_queue.Slotted as Slotted
use Rattle.atomic_table.proofs.shared.Seat.TheSendSync.{the_send as seat_send}
use Rattle.atomic_table.proofs.shared.Shared.TheSendSync.{the_send as shared_send, the_sync as shared_sync}
use Rattle.atomic_table.proofs.send_lease.SendLease.TheSendSync.{the_send as lease_send, the_sync as lease_sync}

-- a table of the queue, and the queue, which threads share
module _ (S V P : RattleType) (g : TableGhosts P.Denot S.Denot V.Denot Unit) (goes : IsSend S) where
  table_send : IsSend (Table.the_field S V unit P Global.the_row g heap_ghosts).row
  table_send = search (sendable, crosses, shared_send, lease_send) depth 60 fits 20000

  table_sync : IsSync (Table.the_field S V unit P Global.the_row g heap_ghosts).row
  table_sync = search (sendable, crosses, shared_sync, lease_sync) depth 60 fits 20000

  queue_send : IsSend (Slotted.the_row S V P Global.the_row g heap_ghosts)
  queue_send =
      let queue = Slotted.the_type S V P Global.the_row g heap_ghosts in
      recorded_send _ _ _ queue.to_one (struct_send (shape queue) (table_send, (search sendable, (search sendable, tt))))

  queue_sync : IsSync (Slotted.the_row S V P Global.the_row g heap_ghosts)
  queue_sync =
      let queue = Slotted.the_type S V P Global.the_row g heap_ghosts in
      recorded_sync _ _ _ queue.to_one (struct_sync (shape queue) (table_sync, (search sendable, (search sendable, tt))))

module _ (T L R : RattleType) (rule : RuleOf R.Denot T.Denot L.Denot) (goes : IsSend T) (comes : IsSend L) where
  return_send : IsSend (Return.the_row T L)
  return_send = search (sendable, crosses) depth 60 fits 20000

  pub way_send : IsSend (WayBack.the_row T L R rule)
  way_send = search (sendable, crosses, ring_end, return_send) depth 60 fits 20000

  pub coming_send : IsSend (ComingBack.the_row T L R rule)
  coming_send = search (sendable, crosses, ring_end, return_send) depth 60 fits 20000

  parcel_send : IsSend (Parcel.the_row T L)
  parcel_send = search (sendable, crosses, seat_send) depth 60 fits 20000

  pub lender_send : IsSend (Lender.the_row T L R rule)
  lender_send =
      search (sendable, crosses, seat_send, queue_send, queue_sync, ring_end, parcel_send)
      depth 60 fits 20000

  pub borrower_send : IsSend (Borrower.the_row T L R rule)
  borrower_send =
      search (sendable, crosses, seat_send, queue_send, queue_sync, ring_end, parcel_send)
      depth 60 fits 20000
