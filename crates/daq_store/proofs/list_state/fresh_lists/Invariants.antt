-- so many fresh lists were pushed, within the room that was made for all
use Rattle.std.proofs.Common.{◌≡◌, replicate, vec_len, vec_capacity}
use Rattle.daq_store.specs.Inner.Effects.{fresh_state}
use Rattle.daq_store.proofs.list_state.fresh_lists.Given as goal

abbrev pub invariant-loop : goal.invariant-loop
invariant-loop l = record {
  items : l.lists.items ≡ replicate l.counter (fresh_state l.form);
  len : vec_len l.lists ≡ l.counter;
  room : vec_capacity l.lists ≡ l.count;
}
