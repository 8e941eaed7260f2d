-- A handle may go to another thread: what it may hold may, and so may the right to free its box.
use denote.RattleType.{RattleType}
use denote.Enum.Declared as enum
use denote.Struct.Struct.{exits_of}
use denote.Struct.Owning.{shape, fields, to}
use denote.Param.Send.{IsSend, AllSend, enum_send, owning_send, recorded_send, struct_send, sendable}
use Rattle.std.proofs.Crossing.{crosses}
use Rattle.std_alloc.proofs.SendSync.{quiet}
use Rattle.byte_ring.proofs.SendLemmas.{byte_left, byte_send}
use Rattle.channel_ring.proofs.SendLemmas.{ring_end, send_half}
use Rattle.daq_engine.proofs.SendLemmas.{copy_plan}
use Rattle.daq_store.specs.contracts.store.Store as Store
use Rattle.byte_ring.specs.contracts.ring.ByteRing as ByteRing
use Rattle.byte_ring.specs.contracts.byte_left.ByteLeft as ByteLeft
use Rattle.byte_ring.specs.contracts.byte_left.ByteLeftRingEnd.TheImpl.{ghosts as byte_left_ghosts}
use Rattle.byte_ring.specs.contracts.byte_send.ByteSend as ByteSend
use Rattle.byte_ring.specs.contracts.byte_send.ByteSendSendEnd.TheImpl.{ghosts as byte_send_ghosts}
use Rattle.byte_ring.specs.contracts.byte_take.ByteTake as ByteTake
use Rattle.byte_ring.specs.contracts.byte_take.ByteTakeItemTake.TheImpl.{ghosts as byte_item_ghosts}
use Rattle.byte_ring.specs.contracts.byte_take.ByteTakeTakeEnd.TheImpl.{ghosts as byte_take_ghosts}
use Rattle.channel_ring.specs.contracts.sample_ring.SampleRing as SampleRing
use Rattle.channel_ring.specs.contracts.sample_ring.SendHalf as SendHalf
use Rattle.channel_ring.specs.contracts.sample_ring.SendHalfSendEnd.TheImpl.{ghosts as half_ghosts}
use Rattle.channel_ring.specs.contracts.sample_ring.SendLeftRingEnd.TheImpl.{ghosts as left_ghosts}
use Rattle.channel_ring.specs.contracts.sample_ring.TakeHalfItemTake.TheImpl.{ghosts as item_ghosts}
use Rattle.channel_ring.specs.contracts.sample_ring.TakeHalfTakeEnd.TheImpl.{ghosts as take_ghosts}
use Rattle.daq_engine.specs.contracts.ring.ByteRingRing.TheImpl.{ghosts as byte_rings}
use Rattle.daq_engine.specs.contracts.ring.SampleRingRing.TheImpl.{ghosts as item_rings}
use Rattle.channel_ring.specs.contracts.sample_ring.TakeHalf as TakeHalf
use Rattle.channel_ring.specs.declared.ends.SendEnd.{Ghosts as SendGhosts}
use Rattle.channel_ring.specs.declared.ends.RingEnd.{Ghosts as EndGhosts}
use Rattle.channel_ring.specs.declared.ends.TakeEnd.{Ghosts as TakeGhosts}
use Rattle.channel_ring.specs.declared.item_ends.ItemTake.{Ghosts as ItemGhosts}
use Rattle.daq_engine.specs.declared.ring.Ring.{Ghosts as RingGhosts}
use Rattle.frame_writer.specs.contracts.byte_log.ByteLog as Log
use Rattle.hand_over.proofs.SendLemmas.{coming_send, way_send}
use Rattle.c_engine.proofs.SendLemmas.{Left, byte_take, left_send, owned_keyless, take_half}
use Rattle.c_engine.specs.contracts.held_engine.HeldEngine as Engine
use Rattle.c_engine.specs.contracts.lending.Lending as Lending
use Rattle.c_engine.specs.contracts.lent.Lent as Lent
use Rattle.c_engine.specs.contracts.content.Content as content
use Rattle.c_engine.specs.contracts.handle.Handle.{the_row, the_type}

-- a list of bytes of which none is kept owns nothing
log_send : IsSend Log.the_row
log_send =
    let all : AllSend (fields Log.the_type) = (search sendable, tt) in
    owning_send Log.the_type all (λ d. tt)
    (λ k. quiet (to Log.the_type) (exits_of k (fields Log.the_type)) ((struct_send (shape Log.the_type) all).leaving k))

-- over rings of one kind, whose ends may go
module _ (R S T E : RattleType) (kind : RingGhosts R.Denot S.Denot T.Denot E.Denot) (send : SendGhosts S.Denot E.Denot)
    (ring : EndGhosts E.Denot) (pass : ItemGhosts T.Denot E.Denot) (give : TakeGhosts T.Denot E.Denot) (s_goes : IsSend S) (t_goes : IsSend T) (e_goes : IsSend E) where
  lent_send : IsSend (Lent.the_field R S T E kind send ring pass give).row
  lent_send = search (sendable, crosses, copy_plan, way_send) depth 60 fits 20000

  lending_send : IsSend (Lending.the_row R S T E kind send ring pass give)
  lending_send = search (sendable, crosses, copy_plan, coming_send) depth 60 fits 20000

  engine_send : IsSend (Engine.the_field R S T E kind send ring pass give).row
  engine_send = search (sendable, crosses, ring_end, lending_send, log_send) depth 60 fits 20000

items_lent : IsSend (Lent.the_field SampleRing.the_row SendHalf.the_row TakeHalf.the_row Left item_rings half_ghosts left_ghosts item_ghosts take_ghosts).row
items_lent =
    lent_send SampleRing.the_row SendHalf.the_row TakeHalf.the_row Left item_rings half_ghosts left_ghosts item_ghosts take_ghosts
    send_half take_half left_send

items_engine : IsSend (Engine.the_field SampleRing.the_row SendHalf.the_row TakeHalf.the_row Left item_rings half_ghosts left_ghosts item_ghosts take_ghosts).row
items_engine =
    engine_send SampleRing.the_row SendHalf.the_row TakeHalf.the_row Left item_rings half_ghosts left_ghosts item_ghosts take_ghosts
    send_half take_half left_send

bytes_lent : IsSend (Lent.the_field ByteRing.the_row ByteSend.the_row ByteTake.the_row ByteLeft.the_row byte_rings byte_send_ghosts byte_left_ghosts byte_item_ghosts byte_take_ghosts).row
bytes_lent =
    lent_send ByteRing.the_row ByteSend.the_row ByteTake.the_row ByteLeft.the_row byte_rings byte_send_ghosts byte_left_ghosts byte_item_ghosts byte_take_ghosts
    byte_send byte_take byte_left

bytes_engine : IsSend (Engine.the_field ByteRing.the_row ByteSend.the_row ByteTake.the_row ByteLeft.the_row byte_rings byte_send_ghosts byte_left_ghosts byte_item_ghosts byte_take_ghosts).row
bytes_engine =
    engine_send ByteRing.the_row ByteSend.the_row ByteTake.the_row ByteLeft.the_row byte_rings byte_send_ghosts byte_left_ghosts byte_item_ghosts byte_take_ghosts
    byte_send byte_take byte_left

store_send : IsSend (Store.the_field).row
store_send = search (sendable, crosses) depth 60 fits 20000

content_send : IsSend content.the_row
content_send =
    recorded_send _ _ _ content.the_type.to_one
    (enum_send (enum.shape content.the_type) (
      (store_send, tt),
      (
        (items_lent, tt),
        (
          (items_engine, tt),
          (
            (bytes_lent, tt),
            ((bytes_engine, tt), tt),
          ),
        ),
      ),
    ))

pub send : IsSend the_row
send =
    let all : AllSend (fields the_type) = (search sendable, (search sendable, tt)) in
    owning_send the_type all (λ d. owned_keyless content.the_row content_send d.full d.at d.held)
    (λ k. quiet (to the_type) (exits_of k (fields the_type)) ((struct_send (shape the_type) all).leaving k))
