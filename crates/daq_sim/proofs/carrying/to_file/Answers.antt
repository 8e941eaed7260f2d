use Rattle.std.proofs.Common.{None, refl}
use Rattle.daq_sim.specs.Done.{not_printed}
use Rattle.daq_sim.proofs.DoneLemmas.{prints_run}
use Rattle.daq_sim.proofs.carrying.to_file.Goals as goal

-- the frames are in the file, and not printed
pub returns-clause-printed : goal.returns-clause-printed
returns-clause-printed g c =
    prints_run _ not_printed _ _ _ _ _ _ _ _ None c.in_ok-refused.ensures.ok refl
    c.status_of_printing.ensures.well.0 c.print_outcome-printing.ensures
