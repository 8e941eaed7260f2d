use Rattle.std.proofs.Common.{ap, subst}
use Rattle.recording.specs.ByName.{IsByName}
use Rattle.recording.specs.declared.mode.Mode.TheVariants as mode
use Rattle.recording.proofs.ShownLemmas.{of_start, of_writer, shown_as}
use Rattle.recording.proofs.values.show_rows.Goals as goal

-- the sheet is one of these columns and lists, of this tick and of this writer
pub returns-clause-shown : goal.returns-clause-shown
returns-clause-shown g c =
    let sheet = c.in_ok-rows in
    let s = sheet.rows in
    of_writer c.show_on.result _ _
    (λ w h. shown_as _ (IsByName mode.Csv c.args.shown.tick c.args.shown.columns.items (g.W.Write.contents c.args.out) (g.W.Write.contents w)) _ _ _ _ _
    (λ samples p. of_start (λ plans before. IsByName mode.Csv c.args.shown.tick c.args.shown.columns.items before (g.W.Write.contents w) plans samples) s.plans s.start _ _ _
    (ap (λ s. s.plans) sheet.ensures) c.in_ok-shapes.ensures (ap (λ s. s.start) sheet.ensures)
    (subst (λ tick. IsByName mode.Csv tick c.args.shown.columns.items s.start (g.W.Write.contents w) s.plans samples) (ap (λ s. s.tick) sheet.ensures)
    (subst (λ columns. IsByName mode.Csv s.tick columns s.start (g.W.Write.contents w) s.plans samples) (ap (λ s. s.columns) sheet.ensures) p)))
    h)
    c.show_on.ensures.shown
