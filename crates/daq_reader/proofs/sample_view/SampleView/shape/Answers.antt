use Rattle.std.proofs.Common.{subst}
use Rattle.daq_reader.specs.Reading.{Shown}
use Rattle.daq_reader.specs.Recorded.{IsRecorded}
use Rattle.daq_reader.proofs.RecordedLemmas.{is_recorded}
use Rattle.daq_reader.proofs.sample_view.SampleView.shape.Goals as goal

-- its packets are whole
pub returns-clause-sample : goal.returns-clause-sample
returns-clause-sample c =
    subst (λ (v : Shown). IsRecorded v.plan v.sample) c.self.view_is (is_recorded _ _ c.self.invariant.fit c.self.invariant.each)
