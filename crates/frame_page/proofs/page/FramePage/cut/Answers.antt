use Rattle.std.proofs.Common.{◌≡◌, ℕ, ◌+◌, ◌*◌, ◌<◌, ◌≤◌, List, ◌∷◌, length, take, drop, refl, sym, ap, ◌∙◌, subst, arith}
use Rattle.std.proofs.lemmas.List.{length-drop, length-take, take_all}
use Rattle.circular_buffer.specs.Buffer.{Buffer, buffer}
use Rattle.frame_writer.specs.Frame.{unnumbered}
use Rattle.frame_ring.specs.Reading.{flat}
use Rattle.frame_ring.specs.Sending.{AreFramesOf}
use Rattle.frame_page.specs.Inner.{AreUnits}
use Rattle.frame_page.specs.Laid.{IsWithinFirst, behind}
use Rattle.frame_page.specs.Pages.{PageState, laid_in, waits_in}
use Rattle.frame_page.specs.declared.unit.Unit.{Unit}
use Rattle.frame_page.proofs.SentLemmas.{IsCut, cut_unit, first_behind, is_cut, laid_count}
use Rattle.frame_page.proofs.ShownLemmas.{Stands, drop_here, stands_first, stands_within, unit_bytes}
use Rattle.frame_page.proofs.TakeLemmas.{page_is}
use Rattle.frame_page.proofs.UnitLemmas.{read_front}
use Rattle.frame_page.proofs.page.FramePage.cut.Given.{Over}
use Rattle.frame_page.proofs.page.FramePage.cut.Goals as goal
use Rattle.frame_page.proofs.page.FramePage.cut.Goals.{In-Some}

-- the units, of which the first was taken out
abbrev behind_it : (g : Over) (c : In-Some g) → List (Unit g.row.O.Denot)
behind_it g c = drop (0 + 1) c.self.inside.units.items

here : (g : Over) (c : In-Some g) → c.self.inside.units.items ≡ c.in-Some.unit ∷ behind_it g c
here g c = drop_here c.self.inside.units.items 0 c.in-Some.unit (sym c.pop_front.ensures.value ∙ c.in-Some.is)

are : (g : Over) (c : In-Some g) → AreUnits c.self.inside.blocks.all (c.in-Some.unit ∷ behind_it g c)
are g c = subst (AreUnits c.self.inside.blocks.all) (here g c) c.self.invariant.stand

stands : (g : Over) (c : In-Some g) → Stands c.self.inside.blocks.all 0 (c.in-Some.unit ∷ behind_it g c)
stands g c = stands_first c.self.inside.blocks.all (c.in-Some.unit ∷ behind_it g c) (are g c)

-- not all of its frames
within : (g : Over) (c : In-Some g) → c.args.count < c.in-Some.unit.count
within g c =
    let B = c.self.inside.blocks.all in
    let of_state = subst (λ (p : PageState _). IsWithinFirst c.args.count p.waits) (sym c.self.view_is) c.requires in
    let of_units = subst (λ us. IsWithinFirst c.args.count (waits_in B us)) (here g c) of_state in
    omega (arith, of_units, laid_count B c.in-Some.unit (are g c).0)

-- the bytes of its frames
framed : (g : Over) (c : In-Some g) (frames : List ℕ) (blocks : List (List ℕ)) → frames ≡ take c.in-Some.unit.len (drop (8 * 0 + c.in-Some.unit.at) (flat blocks)) → blocks ≡ c.self.inside.blocks.all
    → AreFramesOf frames c.in-Some.unit.count (are g c).0.frames.packets
framed g c frames blocks is same =
    let u = c.in-Some.unit in
    subst (λ b. AreFramesOf b u.count (are g c).0.frames.packets)
    (sym (is ∙ ap (λ b. take u.len (drop (8 * 0 + u.at) (flat b))) same ∙ unit_bytes c.self.inside.blocks.all 0 u (behind_it g c) (stands g c)))
    (are g c).0.frames.of

pub bytes_in-frames-requires-clause-within : goal.bytes_in-frames-requires-clause-within
bytes_in-frames-requires-clause-within g c =
    let w = (goal.at.bytes_in-frames-requires-clause-within g c).In-Some in
    omega (arith, stands_within c.self.inside.blocks.all 0 c.in-Some.unit (behind_it g w) (stands g w), ap length c.as_slice.ensures)

pub front_len-len-requires-clause-frames : goal.front_len-len-requires-clause-frames
front_len-len-requires-clause-frames g c =
    let w = (goal.at.front_len-len-requires-clause-frames g c).In-Some in
    record { packets = (are g w).0.frames.packets; of = framed g w c.bytes_in-frames.result.now c.as_slice.result.now c.bytes_in-frames.ensures c.as_slice.ensures }

pub front_len-len-requires-clause-few : goal.front_len-len-requires-clause-few
front_len-len-requires-clause-few g c = omega (arith, within g (goal.at.front_len-len-requires-clause-few g c).In-Some)

-- it is cut
cuts : (g : Over) (c : In-Some g) (len : ℕ) → len ≡ length (unnumbered (take c.args.count (are g c).0.frames.packets)) → IsCut (take c.in-Some.unit.blocks c.self.inside.blocks.all) c.in-Some.unit c.args.count len (are g c).0
cuts g c len e = is_cut (take c.in-Some.unit.blocks c.self.inside.blocks.all) c.in-Some.unit c.args.count len (are g c).0 (within g c) e

pub overflow_add-unit : goal.overflow_add-unit
overflow_add-unit g c =
    let w = (goal.at.overflow_add-unit g c).In-Some in
    let one = cuts g w c.front_len-len.result (c.front_len-len.ensures (are g w).0.frames.packets (framed g w c.bytes_in-frames.result.now c.as_slice.result.now c.bytes_in-frames.ensures c.as_slice.ensures)) in
    omega (arith, one.unit.within, one.unit.long, length-take c.in-Some.unit.blocks c.self.inside.blocks.all, c.self.invariant.within, c.self.invariant.few)

pub overflow_sub-unit : goal.overflow_sub-unit
overflow_sub-unit g c =
    let w = (goal.at.overflow_sub-unit g c).In-Some in
    (cuts g w c.front_len-len.result (c.front_len-len.ensures (are g w).0.frames.packets (framed g w c.bytes_in-frames.result.now c.as_slice.result.now c.bytes_in-frames.ensures c.as_slice.ensures))).short

pub overflow_sub-unit-2 : goal.overflow_sub-unit-2
overflow_sub-unit-2 g c = omega (arith, within g (goal.at.overflow_sub-unit-2 g c).In-Some)

-- the units then
pushed : {X : Type 0} (x : X) (xs : List X) (more b : Buffer X) (capacity : ℕ) → b ≡ buffer (drop 1 xs) capacity → 0 < length xs → length xs ≤ capacity → more ≡ buffer (take b.capacity (x ∷ b.items)) b.capacity
    → more ≡ buffer (x ∷ drop 1 xs) capacity
pushed x xs more b capacity e some room is =
    is ∙ ap (λ (m : Buffer _). buffer (take m.capacity (x ∷ m.items)) m.capacity) e
    ∙ ap (λ ys. buffer ys capacity) (take_all capacity (x ∷ drop 1 xs) (omega (arith, length-drop 1 xs, some, room)))

one_there : (g : Over) (c : In-Some g) → 0 < length c.self.inside.units.items
one_there g c = omega (arith, ap length (here g c))

pub invariant_of-self-2 : goal.invariant_of-self-2
invariant_of-self-2 g c =
    let w = (goal.at.invariant_of-self-2 g c).In-Some in
    let s = c.self.inside in
    let one = cuts g w c.front_len-len.result (c.front_len-len.ensures (are g w).0.frames.packets (framed g w c.bytes_in-frames.result.now c.as_slice.result.now c.bytes_in-frames.ensures c.as_slice.ensures)) in
    let now = pushed (cut_unit c.in-Some.unit c.args.count c.front_len-len.result) s.units.items c.push_front.new.self c.pop_front.new.self s.units.capacity c.pop_front.ensures.items (one_there g w) c.self.invariant.room c.push_front.ensures.items in
    let items = ap (λ (b : Buffer (Unit _)). b.items) now in
    record {
      within = c.self.invariant.within;
      few = c.self.invariant.few;
      stand = subst (AreUnits s.blocks.all) (sym items) (one.unit, (are g w).1);
      room = omega (arith, ap length items, ap (λ (b : Buffer (Unit _)). b.capacity) now, length-drop 1 s.units.items, one_there g w, c.self.invariant.room);
    }

pub returns : goal.returns
returns g c =
    let w = (goal.at.returns g c).In-Some in
    let s = c.self.inside in
    let u = c.in-Some.unit in
    let B = s.blocks.all in
    let len = c.front_len-len.result in
    let one = cuts g w len (c.front_len-len.ensures (are g w).0.frames.packets (framed g w c.bytes_in-frames.result.now c.as_slice.result.now c.bytes_in-frames.ensures c.as_slice.ensures)) in
    let now = pushed (cut_unit u c.args.count len) s.units.items c.push_front.new.self c.pop_front.new.self s.units.capacity c.pop_front.ensures.items (one_there g w) c.self.invariant.room c.push_front.ensures.items in
    let read : (laid_in B u).packets ≡ (are g w).0.frames.packets = read_front (drop u.at (flat (take u.blocks B))) u.count u.len (are g w).0.frames in
    let rest = waits_in (drop u.blocks B) (drop 1 s.units.items) in
    let waits : waits_in B c.push_front.new.self.items ≡ behind c.args.count (waits_in B s.units.items) =
    ap (λ (b : Buffer (Unit _)). waits_in B b.items) now
    ∙ ap (λ qs. record { origin = u.origin; packets = qs; blocks = u.blocks } ∷ rest) (one.packets ∙ ap (drop c.args.count) (sym read))
    ∙ sym (first_behind c.args.count B u (drop 1 s.units.items) (omega (arith, within g w, laid_count B u (are g w).0)))
    ∙ ap (λ us. behind c.args.count (waits_in B us)) (sym (here g w)) in
    subst (λ (old : PageState _). ◌≡◌ {A = PageState _} (record { waits = waits_in B c.push_front.new.self.items; counter = s.counter; used = length B; blocks = s.blocks.room; most = c.push_front.new.self.capacity }) (record old { waits = behind c.args.count old.waits })) c.self.view_is
    (page_is _ _ s.counter (length B) (length B) s.blocks.room s.blocks.room _ _ waits refl refl (ap (λ (b : Buffer (Unit _)). b.capacity) now))
