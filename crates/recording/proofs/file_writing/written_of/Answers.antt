use Rattle.std.proofs.Common.{subst}
use Rattle.recording.specs.Measured.{IsMeasured}
use Rattle.recording.proofs.ShownLemmas.{of_writer, shown_as}
use Rattle.recording.proofs.file_writing.written_of.Goals as goal

-- the sheet is one of these values and lists, and of this out
pub returns-in-Ok-clause-written : goal.returns-in-Ok-clause-written
returns-in-Ok-clause-written g c =
    let known = g.O.MdfOut.known in
    of_writer c.show_on.result _ _
    (λ w h. shown_as _ (λ plans samples. IsMeasured c.args.about c.args.values.tick c.args.values.columns.now plans samples (known c.args.out) (known w)) _ _ _ _ _
    (λ samples p. subst (λ plans. IsMeasured c.args.about c.args.values.tick c.args.values.columns.now plans samples (known c.args.out) (known w)) c.in_ok-shapes.ensures
    (subst (λ s. IsMeasured s.about s.tick s.columns s.plans samples s.start (known w)) c.in-Ok.ensures p))
    h)
    c.show_on.ensures.shown
