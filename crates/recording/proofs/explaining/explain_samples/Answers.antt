use Rattle.std.proofs.Common.{◌∙◌, ap}
use Rattle.recording.proofs.StopLemmas.{all_read, its_end, its_fault, why_not}
use Rattle.recording.proofs.explaining.explain_samples.Goals as goal

-- where a writer is given back or not, all was read
pub returns-clause-read : goal.returns-clause-read
returns-clause-read g c =
    let read = c.read_frames-outcome in
    let none = ap (λ s. s.samples) c.new-lines.ensures ∙ c.in_ok-summary.ensures.samples in
    its_end read.result _ _ (all_read _ _ _ _ _ _ _ _ _ read.result c.in_ok-reader.ensures.value none read.ensures.read
    read.ensures.lists read.ensures.end read.ensures.all read.ensures.whole) c.concluded.ensures.read

-- and where there is a fault, it isn't for this
pub returns-clause-fault : goal.returns-clause-fault
returns-clause-fault g c =
    let read = c.read_frames-outcome in
    let none = ap (λ s. s.samples) c.new-lines.ensures ∙ c.in_ok-summary.ensures.samples in
    its_fault read.result _ _ _ tt (why_not _ _ _ _ _ _ _ _ _ read.result c.in_ok-reader.ensures.value none
    c.in_ok-reader.ensures.stands read.ensures.lists read.ensures.fault read.ensures.broken read.ensures.place read.ensures.why)
    c.concluded.ensures.err
