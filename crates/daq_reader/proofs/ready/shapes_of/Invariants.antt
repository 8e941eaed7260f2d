-- the lists so far were looked at
use Rattle.std.proofs.Common.{◌≡◌}
use Rattle.daq_reader.specs.Lists.{plans_of}
use Rattle.daq_reader.specs.Ready.{ready_below}
use Rattle.daq_reader.proofs.ready.shapes_of.Given as goal

abbrev pub invariant-loop-l : goal.invariant-loop-l
invariant-loop-l l = l.shapes.items ≡ plans_of (ready_below l.store l.l)
