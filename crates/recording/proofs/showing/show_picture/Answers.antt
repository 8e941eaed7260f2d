use Rattle.std.proofs.Common.{[], ap, subst}
use Rattle.recording.specs.Shown.{IsShown}
use Rattle.recording.specs.declared.mode.Mode.TheVariants.{Svg}
use Rattle.recording.proofs.ShownLemmas.{of_writer, shown_as}
use Rattle.recording.proofs.showing.show_picture.Goals as goal

-- the sheet is one of this writer
pub returns-clause-shown : goal.returns-clause-shown
returns-clause-shown g c =
    of_writer c.show_on.result _ _
    (λ w h. shown_as _ (λ plans samples. IsShown Svg plans samples (g.W.Write.contents c.args.out) (g.W.Write.contents w)) _ _ _ _ _
    (λ samples. subst (λ before. IsShown Svg [] samples before (g.W.Write.contents w)) (ap (λ s. s.start) c.in_ok-drawing.ensures))
    h)
    c.show_on.ensures.shown
