use Rattle.std.proofs.Common.{◌≡◌, ◌+◌, ◌++◌, length, map}
use Rattle.frame_writer.specs.Inner.{text_len}
use Rattle.frame_writer.proofs.layout.whole_frames.Given as goal

-- the frames of the packets so far are whole, and the other packets are still to come
abbrev pub invariant-loop-packet : goal.invariant-loop-packet
invariant-loop-packet l = record {
  can : goal.iterator-loop-packet.can_next l.packet-iterator;
  ends : goal.iterator-loop-packet.is_finite l.packet-iterator;
  packets : map (λ q. q.now) l.yielded ++ l.packet-iterator ≡ l.packets;
  count : l.whole ≡ length l.yielded;
  left : l.taken ≡ text_len (map (λ q. q.now) l.yielded) + l.left;
}
