-- The lines of the lists so far were printed.
use Rattle.std.proofs.Common.{take}
use Rattle.std.specs.Prelude.{flat_map}
use Rattle.std.specs.Io.KnownBytes.{Appends}
use Rattle.daq_sim.specs.Printed.{list_line}
use Rattle.daq_sim.proofs.report_text.print_lists.Given as goal

abbrev pub invariant-loop-list : goal.invariant-loop-list
invariant-loop-list g l = Appends (g.W.Write.contents l.initial.out) (g.W.Write.contents l.out)
    (flat_map list_line (take l.list-index l.lists))
