use Rattle.std.proofs.Common.{ap, refl, ◌∙◌, Ok}
use Rattle.daq_reader.proofs.ReadsLemmas.{one_read}
use Rattle.daq_reader.proofs.RecordingLemmas.{all_given, goes_on, not_failed, one_within}
use Rattle.daq_reader.proofs.reading.read.Goals as goal

-- one frame more
pub loop-preserved : goal.loop-preserved
loop-preserved g c =
    let next = c.read_frame.ensures.read (c.in_ok-read_frame.was ∙ ap Ok c.if-branch.true) in (
      λ qs h. one_read c.loop.reader c.read_frame.new.reader qs (g.S.Samples.handed c.loop.samples) (g.S.Samples.handed c.read_frame.new.samples) c.args.unread.now c.loop.unread c.read_frame.new.unread next.0 (c.loop.invariant.0 qs h) next.1 next.2,
      λ before written h is. one_within written c.loop.reader c.read_frame.new.reader (g.S.Samples.handed c.loop.samples) (g.S.Samples.handed c.read_frame.new.samples) c.loop.unread c.read_frame.new.unread next.0 (c.loop.invariant.1 before written h is) next.1 c.read_frame.ensures.lists next.2,
      c.read_frame.ensures.lists ∙ c.loop.invariant.2,
      c.read_frame.ensures.kept ∙ c.loop.invariant.3,
    )

-- no frame of a recording of whole samples is refused
pub returns-in_err-read_frame-clause-whole : goal.returns-in_err-read_frame-clause-whole
returns-in_err-read_frame-clause-whole g c = λ before written h is.
    let within = c.loop.invariant.1 before written h is in
    let ok = goes_on written c.loop.reader (g.S.Samples.handed c.loop.samples) c.loop.unread c.read_frame.result within c.read_frame.ensures.end.1 c.read_frame.ensures.takes in
    absurd (not_failed c.read_frame.result c.in_err-read_frame.field-0.0 ok c.in_err-read_frame.was)

-- at its end all is given back
pub returns-clause-whole : goal.returns-clause-whole
returns-clause-whole g c = λ before written h is.
    let within = c.loop.invariant.1 before written h is in
    let ends = c.in_ok-read_frame.was ∙ ap Ok c.if-branch.false in
    let stays = c.read_frame.ensures.stays (λ more. absurd (cc (ends, more))) in
    let given = all_given written c.loop.reader (g.S.Samples.handed c.loop.samples) c.loop.unread within (c.read_frame.ensures.end.0 ends) in
    (refl, rw (stays.1, stays.2) given)
