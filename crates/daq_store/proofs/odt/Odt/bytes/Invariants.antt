-- the bytes of the entries so far
use Rattle.std.proofs.Common.{◌≡◌, ◌≤◌, ◌*◌, take, sum_by}
use Rattle.daq_store.specs.Configuration.{entry_len}
use Rattle.daq_store.proofs.odt.Odt.bytes.Given as goal

abbrev pub invariant-loop-entry : goal.invariant-loop-entry
invariant-loop-entry l = record {
  bytes : l.bytes ≡ sum_by entry_len (take l.entry-index l.entry-items);
  bound : l.bytes ≤ 255 * l.entry-index;
}
