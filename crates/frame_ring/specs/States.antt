-- What contracts see of the ends of a ring of frames, read off them.
use Rattle.std.specs.Prelude.{◌-◌, ◌++◌}
use Rattle.rtrb.specs.Ring.{all_sent, known_free, known_items, producer_capacity, received, sent}
use Rattle.channel_ring.specs.Names.{name_of}
use Rattle.frame_ring.specs.Ends.{EndedState, SendState, TakeState}
use Rattle.frame_ring.specs.Inner.{front_block, held_back}
use Rattle.frame_ring.specs.Reading.{items_in}
use Rattle.frame_ring.specs.declared.frame_left.FrameLeft.{FrameLeft}
use Rattle.frame_ring.specs.declared.frame_send.FrameSend.{FrameSend}
use Rattle.frame_ring.specs.declared.frame_take.FrameTake.{FrameTake}

-- a send end
abbrev pub send_state : FrameSend → SendState
send_state s = record {
  sent = items_in (sent s.producer ++ held_back s.held s.buffer.items);
  held = s.held;
  free = known_free s.producer - s.held;
  capacity = producer_capacity s.producer;
  room = s.room;
  ring = name_of s.producer.end;
}

-- a take end
abbrev pub take_state : FrameTake → TakeState
take_state t = record {
  received = items_in (received t.consumer);
  known = items_in (known_items t.consumer);
  front = front_block (known_items t.consumer);
  ring = name_of t.consumer.end;
}

-- what is left of a send end
abbrev pub ended_state : FrameLeft → EndedState
ended_state l = record { sent = items_in (all_sent l.finished); ring = name_of l.finished.end }
