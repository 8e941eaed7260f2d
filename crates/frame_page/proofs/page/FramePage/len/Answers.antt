use Rattle.std.proofs.Common.{ap, length, sym, ◌∙◌}
use Rattle.frame_page.specs.Pages.{PageState}
use Rattle.frame_page.proofs.UnitLemmas.{how_many}
use Rattle.frame_page.proofs.page.FramePage.len.Goals as goal

pub returns : goal.returns
returns g c =
    c.len.ensures.len ∙ sym (how_many c.self.inside.blocks.all c.self.inside.units.items)
    ∙ ap (λ (p : PageState _). length p.waits) c.self.view_is
