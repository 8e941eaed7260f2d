use Rattle.std.proofs.Common.{arith, ap, length}
use Rattle.std.proofs.lemmas.Bool.Decides.{nat_tests}
use Rattle.frame_page.specs.Pages.{PageState}
use Rattle.frame_page.proofs.UnitLemmas.{how_many}
use Rattle.frame_page.proofs.page.FramePage.has_place.Goals as goal

pub returns-clause-yes : goal.returns-clause-yes
returns-clause-yes g c = λ e.
    grind (arith, nat_tests, e, c.len.ensures.len, c.capacity.ensures.capacity, how_many c.self.inside.blocks.all c.self.inside.units.items, ap (λ (p : PageState _). length p.waits) c.self.view_is, ap (λ (p : PageState _). p.most) c.self.view_is)

pub returns-clause-no : goal.returns-clause-no
returns-clause-no g c = λ e.
    grind (arith, nat_tests, e, c.len.ensures.len, c.capacity.ensures.capacity, how_many c.self.inside.blocks.all c.self.inside.units.items, ap (λ (p : PageState _). length p.waits) c.self.view_is, ap (λ (p : PageState _). p.most) c.self.view_is)
