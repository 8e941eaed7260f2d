use Rattle.std.proofs.Common.{Some, refl}
use Rattle.daq_sim.proofs.DoneLemmas.{prints_run}
use Rattle.daq_sim.proofs.explaining.to_file.Goals as goal

-- the story stands in the place of the frames
pub returns-in-Ok-outcome_of-clause-printed : goal.returns-in-Ok-outcome_of-clause-printed
returns-in-Ok-outcome_of-clause-printed g c =
    let story = c.deref.result.now in (
      story,
      prints_run _ (λ bytes. Some story) _ _ _ _ _ _ _ _ (Some story) c.in-Ok-outcome_of.ensures.ok refl
          c.status_of_printing.ensures.well.0 c.print_outcome-printing.ensures,
    )
