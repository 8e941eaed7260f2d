use Rattle.std.proofs.Common.{ap}
use Rattle.recording.specs.Shown.{IsShown}
use Rattle.recording.specs.declared.mode.Mode.TheVariants.{Summary}
use Rattle.recording.proofs.ShownLemmas.{of_start, of_writer, shown_as}
use Rattle.recording.proofs.showing.show_table.Goals as goal

-- the sheet is one of these lists, and of this writer
pub returns-clause-shown : goal.returns-clause-shown
returns-clause-shown g c =
    let sheet = c.in_ok-table in
    of_writer c.show_on.result _ _
    (λ w h. shown_as _ (λ plans samples. IsShown Summary plans samples (g.W.Write.contents c.args.out) (g.W.Write.contents w)) _ _ _ _ _
    (λ samples. of_start (λ plans before. IsShown Summary plans samples before (g.W.Write.contents w)) sheet.table.plans sheet.table.start _ _ _ (ap (λ s. s.plans) sheet.ensures) c.in_ok-shapes.ensures (ap (λ s. s.start) sheet.ensures))
    h)
    c.show_on.ensures.shown
