use Rattle.recording.proofs.FrontLemmas.{if_ok}
use Rattle.recording.proofs.ShownLemmas.{all_by, of_ok, of_writer, stand_first}
use Rattle.recording.proofs.StopLemmas.{all_read, its_end, its_fault, why_not}
use Rattle.recording.proofs.showing.show_on.Goals as goal

-- no sample was handed over yet
pub read_frames-outcome-requires : goal.read_frames-outcome-requires
read_frames-outcome-requires g c = record { stands = stand_first _ _ c.in_ok-reader.ensures.stands c.requires.none }

-- where both succeed, what is printed is that of the samples that were read
pub returns-clause-shown : goal.returns-clause-shown
returns-clause-shown g c =
    let read = c.read_frames-outcome in
    let samples = g.S.Samples.handed read.new.samples in
    of_writer c.concluded.result _ _
    (λ w h.
    let printed : g.S.Sheet.IsPrinted read.new.samples samples w = if_ok c.print-printing.result w (λ out. g.S.Sheet.IsPrinted read.new.samples samples out) h.1 c.print-printing.ensures in
    all_by (λ plans gs. g.S.Sheet.IsPrinted c.args.sheet gs w) _ _ _ _ samples _ _ _ _ c.in_ok-reader.ensures.value c.requires.none (of_ok read.result _ h.0 read.ensures.read) read.ensures.lists
    (of_ok read.result _ h.0 read.ensures.end) (of_ok read.result _ h.0 read.ensures.all) (of_ok read.result _ h.0 read.ensures.whole)
    (g.met.S.Sheet.by_kept read.new.samples c.args.sheet samples w read.ensures.kept printed))
    c.concluded.ensures.shown

-- where one is given back or not, all was read
pub returns-clause-read : goal.returns-clause-read
returns-clause-read g c =
    let read = c.read_frames-outcome in
    its_end read.result _ _ (all_read _ _ _ _ _ _ _ _ _ read.result c.in_ok-reader.ensures.value c.requires.none read.ensures.read
    read.ensures.lists read.ensures.end read.ensures.all read.ensures.whole) c.concluded.ensures.read

-- and where there is a fault, it isn't for this
pub returns-clause-fault : goal.returns-clause-fault
returns-clause-fault g c =
    let read = c.read_frames-outcome in
    its_fault read.result _ _ _ tt (why_not _ _ _ _ _ _ _ _ _ read.result c.in_ok-reader.ensures.value c.requires.none
    c.in_ok-reader.ensures.stands read.ensures.lists read.ensures.fault read.ensures.broken read.ensures.place read.ensures.why)
    c.concluded.ensures.err
