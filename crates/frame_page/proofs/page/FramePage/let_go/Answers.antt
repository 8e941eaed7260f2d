use Rattle.std.proofs.Common.{◌≡◌, ◌-◌, ◌≤◌, length, drop, refl, sym, ap, ◌∙◌, subst, arith}
use Rattle.std.proofs.lemmas.List.{length-drop}
use Rattle.circular_buffer.specs.Buffer.{Buffer, keep_last}
use Rattle.frame_page.specs.Inner.{AreUnits, frames_in}
use Rattle.frame_page.specs.Laid.{IsWithinFirst, behind, blocks_of}
use Rattle.frame_page.specs.Laid.{packets_in as all_packets}
use Rattle.frame_page.specs.Pages.{PageState, waits_in}
use Rattle.frame_page.specs.Queue.{QueueState}
use Rattle.frame_page.specs.declared.unit.Unit.{Unit}
use Rattle.frame_page.proofs.SentLemmas.{all_blocks, all_count, all_taken, blocks_front, frames_front, keep_behind, units_behind, waits_behind, within_first}
use Rattle.frame_page.proofs.TakeLemmas.{page_is}
use Rattle.frame_page.proofs.page.FramePage.let_go.Given.{Over}
use Rattle.frame_page.proofs.page.FramePage.let_go.Goals as goal
use Rattle.frame_page.proofs.page.FramePage.let_go.Goals.{After-let_go}

pub whole_units-whole-requires : goal.whole_units-whole-requires
whole_units-whole-requires g c = omega (arith, all_blocks c.self.inside.blocks.all c.self.inside.units.items c.self.invariant.stand, c.self.invariant.within, c.self.invariant.few)

pub let_go-requires : goal.let_go-requires
let_go-requires g c =
    let s = c.self.inside in
    omega (arith, c.whole_units-whole.ensures.blocks, blocks_front c.whole_units-whole.result.units s.units.items, all_blocks s.blocks.all s.units.items c.self.invariant.stand)

-- the units that stay
left : (g : Over) (c : After-let_go g) → c.truncate_front.new.self.items ≡ drop c.whole_units-whole.result.units c.self.inside.units.items
left g c =
    let us = c.self.inside.units.items in
    ap (λ (b : Buffer (Unit _)). b.items) c.truncate_front.ensures ∙ ap (λ n. keep_last (n - c.whole_units-whole.result.units) us) c.len.ensures.len ∙ keep_behind c.whole_units-whole.result.units us c.whole_units-whole.ensures.there

-- and their blocks
moved : (g : Over) (c : After-let_go g) → c.let_go.new.self.all ≡ drop c.whole_units-whole.result.blocks c.self.inside.blocks.all
moved g c = ap (λ (q : QueueState). q.all) c.let_go.ensures

stay : (g : Over) (c : After-let_go g) → AreUnits (drop c.whole_units-whole.result.blocks c.self.inside.blocks.all) (drop c.whole_units-whole.result.units c.self.inside.units.items)
stay g c =
    let s = c.self.inside in
    subst (λ n. AreUnits (drop n s.blocks.all) (drop c.whole_units-whole.result.units s.units.items)) (sym c.whole_units-whole.ensures.blocks)
    (units_behind c.whole_units-whole.result.units s.blocks.all s.units.items c.self.invariant.stand)

same_room : (g : Over) (c : After-let_go g) → c.let_go.new.self.room ≡ c.self.inside.blocks.room
same_room g c = ap (λ (q : QueueState). q.room) c.let_go.ensures

pub invariant_of-self : goal.invariant_of-self
invariant_of-self g c =
    let w = (goal.at.invariant_of-self g c).After-let_go in
    let s = c.self.inside in
    record {
      within = omega (arith, same_room g w, ap length (moved g w), length-drop c.whole_units-whole.result.blocks s.blocks.all, c.self.invariant.within);
      few = omega (arith, same_room g w, c.self.invariant.few);
      stand = subst (λ b. AreUnits b c.truncate_front.new.self.items) (sym (moved g w)) (subst (AreUnits (drop c.whole_units-whole.result.blocks s.blocks.all)) (sym (left g w)) (stay g w));
      room = omega (arith, ap length (left g w), length-drop c.whole_units-whole.result.units s.units.items, c.self.invariant.room, ap (λ (b : Buffer (Unit _)). b.capacity) c.truncate_front.ensures);
    }

-- what waits then
waits_then : (g : Over) (c : After-let_go g) → waits_in c.let_go.new.self.all c.truncate_front.new.self.items
    ≡ waits_in (drop c.whole_units-whole.result.blocks c.self.inside.blocks.all) (drop c.whole_units-whole.result.units c.self.inside.units.items)
waits_then g c =
    ap (λ b. waits_in b c.truncate_front.new.self.items) (moved g c)
    ∙ ap (waits_in (drop c.whole_units-whole.result.blocks c.self.inside.blocks.all)) (left g c)

-- as many blocks are taken up as these have
taken : (g : Over) (c : After-let_go g) → length c.let_go.new.self.all ≡ blocks_of (waits_in c.let_go.new.self.all c.truncate_front.new.self.items)
taken g c =
    let s = c.self.inside in
    let old = drop c.whole_units-whole.result.blocks s.blocks.all in
    ap length (moved g c) ∙ sym (ap blocks_of (waits_then g c) ∙ all_taken old (drop c.whole_units-whole.result.units s.units.items) (stay g c))

pub returns-clause-rest : goal.returns-clause-rest
returns-clause-rest g c =
    let w = (goal.at.returns-clause-rest g c).After-let_go in
    let s = c.self.inside in
    let q = c.let_go.new.self in
    let waits = waits_in q.all c.truncate_front.new.self.items in
    subst (λ (old : PageState _). ◌≡◌ {A = PageState _} (record { waits = waits; counter = s.counter; used = length q.all; blocks = q.room; most = c.truncate_front.new.self.capacity }) (record old { waits = waits; used = blocks_of waits })) c.self.view_is
    (page_is _ _ s.counter _ _ _ _ _ _ refl (taken g w) (same_room g w) (ap (λ (b : Buffer (Unit _)). b.capacity) c.truncate_front.ensures))

pub returns-clause-waits : goal.returns-clause-waits
returns-clause-waits g c =
    let w = (goal.at.returns-clause-waits g c).After-let_go in
    let s = c.self.inside in
    let whole = c.whole_units-whole.result in
    ap (λ (p : PageState _). behind c.args.count p.waits) (sym c.self.view_is)
    ∙ ap (λ n. behind n (waits_in s.blocks.all s.units.items)) c.whole_units-whole.ensures.left
    ∙ waits_behind whole.units whole.left s.blocks.all s.units.items c.self.invariant.stand
    ∙ ap (λ n. behind whole.left (waits_in (drop n s.blocks.all) (drop whole.units s.units.items))) (sym c.whole_units-whole.ensures.blocks)
    ∙ ap (behind whole.left) (sym (waits_then g w))

pub returns-clause-within : goal.returns-clause-within
returns-clause-within g c =
    let w = (goal.at.returns-clause-within g c).After-let_go in
    let s = c.self.inside in
    let whole = c.whole_units-whole.result in
    let few : whole.left ≤ frames_in (drop whole.units s.units.items) =
    omega (arith, c.requires, ap (λ (p : PageState _). length (all_packets p.waits)) c.self.view_is, all_count s.blocks.all s.units.items c.self.invariant.stand, c.whole_units-whole.ensures.left, frames_front whole.units s.units.items) in
    subst (IsWithinFirst whole.left) (sym (waits_then g w))
    (within_first whole.left (drop whole.blocks s.blocks.all) (drop whole.units s.units.items) (stay g w) c.whole_units-whole.ensures.within few)
