-- so many were pushed, within the room that was made for all
use Rattle.std.proofs.Common.{◌≡◌, replicate, vec_len, vec_capacity}
use Rattle.sample_tables.proofs.spots.no_numbers.Given as goal

abbrev pub invariant-loop : goal.invariant-loop
invariant-loop l = record {
  items : l.numbers.items ≡ replicate l.counter 0;
  len : vec_len l.numbers ≡ l.counter;
  room : vec_capacity l.numbers ≡ l.lists;
}
