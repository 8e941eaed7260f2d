-- so many tallies were pushed, within the room that was made for all
use Rattle.std.proofs.Common.{◌≡◌, [], replicate, vec_len, vec_capacity}
use Rattle.sample_tables.specs.Tallies.{tally_of}
use Rattle.sample_tables.proofs.summary.no_tallies.Given as goal

abbrev pub invariant-loop : goal.invariant-loop
invariant-loop l = record {
  items : l.tallies.items ≡ replicate l.counter (tally_of []);
  len : vec_len l.tallies ≡ l.counter;
  room : vec_capacity l.tallies ≡ l.lists;
}
