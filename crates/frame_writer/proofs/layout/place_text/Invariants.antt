use Rattle.std.proofs.Common.{◌≡◌, ◌+◌, ◌%◌, ◌++◌, drop, length, map, take}
use Rattle.frame_writer.specs.Frame.{text}
use Rattle.frame_writer.specs.Inner.{text_len}
use Rattle.frame_writer.proofs.layout.place_text.Given as goal

-- the frames of the packets so far stand from `at` on, and the other packets are still to come
abbrev pub invariant-loop-packet : goal.invariant-loop-packet
invariant-loop-packet l = record {
  can : goal.iterator-loop-packet.can_next l.packet-iterator;
  ends : goal.iterator-loop-packet.is_finite l.packet-iterator;
  packets : map (λ q. q.now) l.yielded ++ l.packet-iterator ≡ l.packets;
  text : take l.end l.room ≡ take l.at l.fn.room ++ text l.counter (map (λ q. q.now) l.yielded);
  end : l.end ≡ l.at + text_len (map (λ q. q.now) l.yielded);
  behind : drop l.end l.room ≡ drop l.end l.fn.room;
  len : length l.room ≡ length l.fn.room;
  next : l.next ≡ (l.counter + length l.yielded) % 65536;
}
