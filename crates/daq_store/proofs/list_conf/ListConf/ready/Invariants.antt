-- the ODTs so far are filled, and their packets are short enough
use Rattle.std.proofs.Common.{◌≡◌, true, take}
use Rattle.std.specs.List.{list_all}
use Rattle.daq_store.specs.Calls.{numbers_below}
use Rattle.daq_store.specs.Configuration.{channel_of, is_filled, is_short}
use Rattle.daq_store.proofs.list_conf.ListConf.ready.Given as goal

abbrev pub invariant-loop-k : goal.invariant-loop-k
invariant-loop-k l = record {
  filled : list_all (is_filled (channel_of l.self.mode) l.segments) (take l.k l.self.odts) ≡ true;
  short : list_all (is_short l.self) (numbers_below l.k) ≡ true;
}
