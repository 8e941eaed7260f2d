use Rattle.std.proofs.Common.{◌≡◌, ◌≤◌, vec_capacity, vec_len}
use Rattle.slave_channels.specs.Calls.{AreNew}
use Rattle.slave_channels.proofs.channels.Channels.new.Given as goal

-- so many are made, and there is room for the others
abbrev pub invariant-loop-c : goal.invariant-loop-c
invariant-loop-c l = record {
  made : AreNew l.c l.all.items l.tasks.items;
  channels_len : vec_len l.all ≡ l.c;
  tasks_len : vec_len l.tasks ≡ l.c;
  channels_room : l.count ≤ vec_capacity l.all;
  tasks_room : l.count ≤ vec_capacity l.tasks;
}
