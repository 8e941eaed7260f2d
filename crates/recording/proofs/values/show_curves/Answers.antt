use Rattle.std.proofs.Common.{[], ap, subst}
use Rattle.recording.specs.ByName.{IsByName}
use Rattle.recording.specs.declared.mode.Mode.TheVariants as mode
use Rattle.recording.proofs.ShownLemmas.{of_writer, shown_as}
use Rattle.recording.proofs.values.show_curves.Goals as goal

-- the sheet is one of this writer
pub returns-clause-shown : goal.returns-clause-shown
returns-clause-shown g c =
    of_writer c.show_on.result _ _
    (λ w h. shown_as _ (IsByName mode.Svg c.args.shown.tick c.args.shown.columns.items (g.W.Write.contents c.args.out) (g.W.Write.contents w)) _ _ _ _ _
    (λ samples. subst (λ before. IsByName mode.Svg c.args.shown.tick c.args.shown.columns.items before (g.W.Write.contents w) [] samples) (ap (λ s. s.start) c.in_ok-curves.ensures))
    h)
    c.show_on.ensures.shown
