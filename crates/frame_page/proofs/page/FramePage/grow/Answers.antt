use Rattle.std.proofs.Common.{length, sym, ap, ◌∙◌, subst, arith}
use Rattle.frame_page.specs.Inner.{IsPage}
use Rattle.frame_page.specs.Pages.{PageState, waits_in}
use Rattle.frame_page.specs.Queue.{QueueState}
use Rattle.frame_page.proofs.page.FramePage.grow.Goals as goal

-- what waits was copied, and there is more room
pub invariant_of-self-2 : goal.invariant_of-self-2
invariant_of-self-2 g c =
    let p = c.self.inside in
    let is = c.self.invariant in
    subst (λ q. IsPage q c.resize.new.self) (sym c.in_ok-grown.ensures)
    (subst (IsPage (record { all = p.blocks.all; room = c.args.blocks })) (sym c.in_ok-resize.ensures.ok)
    (record {
      within = omega (arith, is.within, c.requires.blocks, ap (λ (s : PageState _). s.blocks) c.self.view_is);
      few = c.requires.few;
      stand = is.stand;
      room = omega (arith, is.room, c.requires.places, ap (λ (s : PageState _). s.most) c.self.view_is);
    }))

pub returns-clause-ok : goal.returns-clause-ok
returns-clause-ok g c =
    let p = c.self.inside in
    ap (λ us. record { waits = waits_in c.in_ok-grown.grown.all us.items; counter = p.counter; used = length c.in_ok-grown.grown.all; blocks = c.in_ok-grown.grown.room; most = us.capacity }) c.in_ok-resize.ensures.ok
    ∙ ap (λ (q : QueueState). record { waits = waits_in q.all p.units.items; counter = p.counter; used = length q.all; blocks = q.room; most = c.args.most }) c.in_ok-grown.ensures
    ∙ ap (λ (s : PageState _). record s { blocks = c.args.blocks; most = c.args.most }) c.self.view_is
