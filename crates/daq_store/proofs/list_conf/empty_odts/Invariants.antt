-- so many empty ODTs were pushed, within the room that was made for all
use Rattle.std.proofs.Common.{◌≡◌, [], replicate, vec_len, vec_capacity}
use Rattle.daq_store.proofs.list_conf.empty_odts.Given as goal

abbrev pub invariant-loop : goal.invariant-loop
invariant-loop l = record {
  items : l.odts.items ≡ replicate l.counter [];
  len : vec_len l.odts ≡ l.counter;
  room : vec_capacity l.odts ≡ l.count;
}
