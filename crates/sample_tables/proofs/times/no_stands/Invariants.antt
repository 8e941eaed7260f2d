-- so many were pushed, within the room that was made for all
use Rattle.std.proofs.Common.{◌≡◌, None, replicate, vec_len, vec_capacity}
use Rattle.sample_tables.proofs.times.no_stands.Given as goal

abbrev pub invariant-loop : goal.invariant-loop
invariant-loop l = record {
  items : l.stands.items ≡ replicate l.counter None;
  len : vec_len l.stands ≡ l.counter;
  room : vec_capacity l.stands ≡ l.lists;
}
