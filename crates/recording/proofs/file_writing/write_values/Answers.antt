use Rattle.recording.proofs.StopLemmas.{torn_so, whole_so}
use Rattle.recording.proofs.file_writing.write_values.Goals as goal

-- a recording of whole samples doesn't break off
pub returns-clause-whole : goal.returns-clause-whole
returns-clause-whole g c = λ samples w. whole_so _ samples _ _ _ _ c.written_of.result w c.written_of.ensures.fault

-- and the front of one at its end alone
pub returns-clause-torn : goal.returns-clause-torn
returns-clause-torn g c = λ samples w. torn_so _ samples _ _ _ _ c.written_of.result w c.written_of.ensures.fault
