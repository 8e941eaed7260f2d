use Rattle.daq_reader.proofs.GivenLemmas.{samples_are_taken}
use Rattle.daq_reader.proofs.laws.samples_are_taken.Goals as goal

pub returns : goal.returns
returns c = samples_are_taken
