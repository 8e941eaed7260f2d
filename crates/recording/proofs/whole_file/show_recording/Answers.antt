use Rattle.recording.proofs.FileLemmas.{torn_file, whole_file}
use Rattle.recording.proofs.StopLemmas.{each_fault}
use Rattle.recording.proofs.whole_file.show_recording.Goals as goal

-- a fault is one of the file
pub returns-clause-whole : goal.returns-clause-whole
returns-clause-whole g c = λ samples w.
    each_fault c.shown_of.result _ _ (λ fault h. whole_file _ _ samples _ _ fault w h) c.shown_of.ensures.fault

pub returns-clause-torn : goal.returns-clause-torn
returns-clause-torn g c = λ samples lost w.
    each_fault c.shown_of.result _ _ (λ fault h. torn_file _ _ samples lost _ _ fault w h) c.shown_of.ensures.fault
