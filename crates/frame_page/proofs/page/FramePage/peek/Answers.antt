use Rattle.std.proofs.Common.{◌≡◌, ℕ, ◌+◌, ◌*◌, ◌%◌, ◌≤◌, ◌∷◌, List, drop, take, length, sym, ap, ◌∙◌, subst, arith, rules}
use Rattle.frame_ring.specs.Reading.{flat}
use Rattle.frame_ring.specs.Sending.{AreFrames}
use Rattle.frame_page.specs.Laid.{packets_in}
use Rattle.frame_page.specs.Pages.{PageState, waits_in}
use Rattle.frame_page.proofs.ShownLemmas.{IsShown, Stands, body_bound, body_last, body_len, body_more, drop_here, stands_next, stands_within, unit_bytes}
use Rattle.frame_page.proofs.page.FramePage.peek.Given.{Over}
use Rattle.frame_page.proofs.page.FramePage.peek.Goals as goal
use Rattle.frame_page.proofs.page.FramePage.peek.Goals.{In-Some}

-- the unit stands first of those that are left
here : (g : Over) (c : In-Some g) → drop c.loop-i.i c.self.inside.units.items ≡ c.in-Some.unit.now ∷ drop (c.loop-i.i + 1) c.self.inside.units.items
here g c = drop_here c.self.inside.units.items c.loop-i.i c.in-Some.unit.now (search rules)

stands : (g : Over) (c : In-Some g) → Stands c.self.inside.blocks.all c.loop-i.start (c.in-Some.unit.now ∷ drop (c.loop-i.i + 1) c.self.inside.units.items)
stands g c = subst (Stands c.self.inside.blocks.all c.loop-i.start) (here g c) c.loop-i.invariant.stands

shown : (g : Over) (c : In-Some g) → IsShown c.args.self.now.counter (packets_in c.args.self.now.waits) c.args.buffer.now c.loop-i.buffer c.loop-i.shown (packets_in (waits_in (drop c.loop-i.start c.self.inside.blocks.all) (c.in-Some.unit.now ∷ drop (c.loop-i.i + 1) c.self.inside.units.items)))
shown g c =
    subst (λ us. IsShown c.args.self.now.counter (packets_in c.args.self.now.waits) c.args.buffer.now c.loop-i.buffer c.loop-i.shown (packets_in (waits_in (drop c.loop-i.start c.self.inside.blocks.all) us))) (here g c) c.loop-i.invariant.shown

pub bytes_in-frames-requires-clause-within : goal.bytes_in-frames-requires-clause-within
bytes_in-frames-requires-clause-within g c =
    let w = (goal.at.bytes_in-frames-requires-clause-within g c).In-Some in
    omega (arith, stands_within c.self.inside.blocks.all c.loop-i.start c.in-Some.unit.now (drop (c.loop-i.i + 1) c.self.inside.units.items) (stands g w), ap length c.as_slice.ensures)

pub put_frames-front-requires-clause-frames : goal.put_frames-front-requires-clause-frames
put_frames-front-requires-clause-frames g c =
    let w = (goal.at.put_frames-front-requires-clause-frames g c).In-Some in
    let u = c.in-Some.unit.now in
    let s = stands g w in
    subst (λ b. AreFrames b u.count)
    (sym (c.bytes_in-frames.ensures ∙ ap (λ b. take u.len (drop (8 * c.loop-i.start + u.at) (flat b))) c.as_slice.ensures ∙ unit_bytes c.self.inside.blocks.all c.loop-i.start u (drop (c.loop-i.i + 1) c.self.inside.units.items) s))
    s.units.0.frames

pub put_frames-front-requires-clause-few : goal.put_frames-front-requires-clause-few
put_frames-front-requires-clause-few g c = omega (arith, (stands g (goal.at.put_frames-front-requires-clause-few g c).In-Some).units.0.few)

-- the bytes that were handed to put_frames are those of the unit
framed : (g : Over) (c : In-Some g) (frames : List ℕ) (blocks : List (List ℕ)) → frames ≡ take c.in-Some.unit.now.len (drop (8 * c.loop-i.start + c.in-Some.unit.now.at) (flat blocks)) → blocks ≡ c.self.inside.blocks.all
    → frames ≡ take c.in-Some.unit.now.len (drop (8 * c.loop-i.start + c.in-Some.unit.now.at) (flat c.self.inside.blocks.all))
framed g c frames blocks is same = is ∙ ap (λ b. take c.in-Some.unit.now.len (drop (8 * c.loop-i.start + c.in-Some.unit.now.at) (flat b))) same

pub overflow_add-shown : goal.overflow_add-shown
overflow_add-shown g c =
    let w = (goal.at.overflow_add-shown g c).In-Some in
    let few : c.loop-i.shown.count + c.put_frames-front.result.count ≤ length c.args.buffer.now =
    body_bound c.args.self.now.counter (packets_in c.args.self.now.waits) c.args.buffer.now c.loop-i.buffer c.put_frames-front.new.out c.loop-i.shown c.put_frames-front.result c.self.inside.blocks.all c.loop-i.start c.in-Some.unit.now (drop (c.loop-i.i + 1) c.self.inside.units.items) c.bytes_in-frames.result.now
    ((c.self.inside.counter + c.loop-i.shown.count % 65536) % 65536) (stands g w) (framed g w c.bytes_in-frames.result.now c.as_slice.result.now c.bytes_in-frames.ensures c.as_slice.ensures) (shown g w) (omega (arith, ap (λ (p : PageState _). p.counter) c.self.view_is))
    c.put_frames-front.ensures.fits c.put_frames-front.ensures.front c.put_frames-front.ensures.behind c.put_frames-front.ensures.len in
    omega (arith, few, c.loop-i.invariant.shown.long)

pub overflow_add-shown-in-loop-i : goal.overflow_add-shown-in-loop-i
overflow_add-shown-in-loop-i g c =
    let w = (goal.at.overflow_add-shown-in-loop-i g c).In-Some in
    let few : c.loop-i.shown.len + c.put_frames-front.result.len ≤ length c.args.buffer.now =
    body_len c.args.self.now.counter (packets_in c.args.self.now.waits) c.args.buffer.now c.loop-i.buffer c.put_frames-front.new.out c.loop-i.shown c.put_frames-front.result c.self.inside.blocks.all c.loop-i.start c.in-Some.unit.now (drop (c.loop-i.i + 1) c.self.inside.units.items) c.bytes_in-frames.result.now
    ((c.self.inside.counter + c.loop-i.shown.count % 65536) % 65536) (stands g w) (framed g w c.bytes_in-frames.result.now c.as_slice.result.now c.bytes_in-frames.ensures c.as_slice.ensures) (shown g w) (omega (arith, ap (λ (p : PageState _). p.counter) c.self.view_is))
    c.put_frames-front.ensures.fits c.put_frames-front.ensures.front c.put_frames-front.ensures.behind c.put_frames-front.ensures.len in
    omega (arith, few, c.loop-i.invariant.shown.long)

pub returns-then-front-unit : goal.returns-then-front-unit
returns-then-front-unit g c =
    let w = (goal.at.returns-then-front-unit g c).In-Some in
    let s =
    body_last c.args.self.now.counter (packets_in c.args.self.now.waits) c.args.buffer.now c.loop-i.buffer c.put_frames-front.new.out c.loop-i.shown c.put_frames-front.result c.self.inside.blocks.all c.loop-i.start c.in-Some.unit.now (drop (c.loop-i.i + 1) c.self.inside.units.items) c.bytes_in-frames.result.now
    ((c.self.inside.counter + c.loop-i.shown.count % 65536) % 65536) (stands g w) (framed g w c.bytes_in-frames.result.now c.as_slice.result.now c.bytes_in-frames.ensures c.as_slice.ensures) (shown g w) (omega (arith, ap (λ (p : PageState _). p.counter) c.self.view_is))
    c.put_frames-front.ensures.fits c.put_frames-front.ensures.front c.put_frames-front.ensures.behind c.put_frames-front.ensures.len c.if-front-unit.true in
    record { fits = s.fits; bytes = s.bytes; behind = s.behind; len = s.long }

pub overflow_add-start : goal.overflow_add-start
overflow_add-start g c =
    let s = stands g (goal.at.overflow_add-start g c).In-Some in
    omega (arith, (stands_next c.self.inside.blocks.all c.loop-i.start c.in-Some.unit.now (drop (c.loop-i.i + 1) c.self.inside.units.items) s).within, c.self.invariant.within, c.self.invariant.few)

pub loop-i-preserved : goal.loop-i-preserved
loop-i-preserved g c =
    let w = (goal.at.loop-i-preserved g c).In-Some in
    record {
      shown =
          body_more c.args.self.now.counter (packets_in c.args.self.now.waits) c.args.buffer.now c.loop-i.buffer c.put_frames-front.new.out c.loop-i.shown c.put_frames-front.result c.self.inside.blocks.all c.loop-i.start c.in-Some.unit.now (drop (c.loop-i.i + 1) c.self.inside.units.items) c.bytes_in-frames.result.now
          ((c.self.inside.counter + c.loop-i.shown.count % 65536) % 65536) (stands g w) (framed g w c.bytes_in-frames.result.now c.as_slice.result.now c.bytes_in-frames.ensures c.as_slice.ensures) (shown g w) (omega (arith, ap (λ (p : PageState _). p.counter) c.self.view_is))
          c.put_frames-front.ensures.fits c.put_frames-front.ensures.front c.put_frames-front.ensures.behind c.put_frames-front.ensures.len (omega (arith, c.if-front-unit.false));
      stands = stands_next c.self.inside.blocks.all c.loop-i.start c.in-Some.unit.now (drop (c.loop-i.i + 1) c.self.inside.units.items) (stands g w);
    }
