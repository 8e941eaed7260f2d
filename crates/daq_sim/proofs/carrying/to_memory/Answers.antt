use Rattle.std.proofs.Common.{rules, ap, Some}
use Rattle.daq_sim.specs.Done.{in_hex}
use Rattle.daq_sim.proofs.DoneLemmas.{prints_run}
use Rattle.daq_sim.proofs.carrying.to_memory.Goals as goal

-- the line is that of the bytes that the writer in memory has
pub returns-clause-printed : goal.returns-clause-printed
returns-clause-printed g c =
    prints_run _ in_hex _ _ _ _ _ _ _ _ (Some c.deref.result.now) c.in_ok-refused.ensures.ok (ap Some (search rules))
    c.status_of_printing.ensures.well.0 c.print_outcome-printing.ensures
