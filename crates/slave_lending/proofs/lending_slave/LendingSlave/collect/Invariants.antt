use Rattle.std.proofs.Common.{◌≡◌, ◌≤◌, [], length, map, vec_capacity, vec_len}
use Rattle.slave_channels.specs.Calls.{rings_of}
use Rattle.slave_lending.specs.Slots.{SlotState}
use Rattle.slave_lending.proofs.TaskLemmas.{Front, NoneBelow}
use Rattle.slave_lending.proofs.lending_slave.LendingSlave.collect.Given as goal

-- what is left of the tasks so far came back, and none of them is away
abbrev pub invariant-loop-c : goal.invariant-loop-c
invariant-loop-c l = record {
  as_many : vec_len l.self-inside.slots ≡ vec_len l.initial.self-inside.slots;
  front : Front l.c l.fn.self.tasks l.self-inside.slots.items;
  none : NoneBelow l.c l.self-inside.slots.items;
  slave : l.self-inside.slave ≡ l.fn.self.slave;
  stream : l.self-inside.stream ≡ l.fn.self.stream;
  lines : map (λ (s : SlotState). s.ring) l.self-inside.slots.items ≡ rings_of l.self-inside.slave.channels;
  empty : l.self-inside.room.items ≡ [];
  room : length l.self-inside.slots.items ≤ vec_capacity l.self-inside.room;
}
