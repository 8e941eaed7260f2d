use Rattle.std.proofs.Common.{◌≡◌, ap, length, sym, ◌∙◌, arith, Some}
use Rattle.std.specs.Prelude.{slice_get, None}
use Rattle.std.specs.Option.{option_copied}
use Rattle.circular_buffer.proofs.Places.{slice_get-some}
use Rattle.frame_page.specs.Pages.{PageState}
use Rattle.frame_page.proofs.UnitLemmas.{how_many, origin_at}
use Rattle.frame_page.proofs.page.FramePage.origin.Goals as goal

none-some : {A : Type 0} {a : A} → None ≡ Some a → ⊥
none-some e = cc

-- there is one at the place
pub unreachable-requires : goal.unreachable-requires
unreachable-requires g c =
    let units = c.self.inside.units.items in
    let there = slice_get-some units c.args.i (omega (arith, c.requires.place, ap (λ (p : PageState _). length p.waits) c.self.view_is, how_many c.self.inside.blocks.all units)) in
    none-some (ap option_copied (sym c.in_default.is) ∙ c.get.ensures ∙ there.1)

pub returns : goal.returns
returns g c = λ x at.
    origin_at c.self.inside.blocks.all c.self.inside.units.items c.args.i c.in-Some.unit.now x
    (sym c.get.ensures ∙ ap option_copied c.in-Some.is)
    (ap (λ (p : PageState _). slice_get p.waits c.args.i) c.self.view_is ∙ at)
