use Rattle.std.proofs.Common.{◌≡◌, ◌≤◌, ◌∙◌, ◌++◌, [], append-nil, length, take, drop, sym, ap, subst, arith}
use Rattle.std.proofs.lemmas.List.{length-take, take-append-drop}
use mathlib.Core.List.{IsPrefix}
use Rattle.rtrb.specs.Ring.{known_items, received}
use Rattle.frame_ring.specs.Reading.{items_in}
use Rattle.frame_ring.proofs.EndLemmas.{Took, are_there, took}
use Rattle.frame_ring.proofs.HeldLemmas.{counts_one_more}
use Rattle.frame_ring.proofs.frame_take.FrameTake.pass.Goals as goal
use Rattle.frame_ring.proofs.frame_take.FrameTake.pass.Goals.{After-drop_blocks}

pub drop_blocks-requires : goal.drop_blocks-requires
drop_blocks-requires c = record { there = are_there (known_items c.args.self.now.consumer) c.args.blocks c.requires.some c.requires.size }

-- the first item is what was popped
gone : (c : After-drop_blocks) → Took c.args.self.now.consumer c.drop_blocks.new.consumer (take c.args.blocks (known_items c.args.self.now.consumer))
gone c =
    let s = c.args.self.now in
    let known = known_items s.consumer in
    let p = c.drop_blocks.ensures in
    let there : c.args.blocks ≤ length known = are_there known c.args.blocks c.requires.some c.requires.size in
    let long : length (take c.args.blocks known) ≡ c.args.blocks = omega (arith, there, length-take c.args.blocks known) in
    let all = take-append-drop c.args.blocks known in
    took s.consumer c.drop_blocks.new.consumer (take c.args.blocks known) s.whole c.requires.some
    (long ∙ c.requires.size) p.popped
    ([], append-nil known ∙ sym all ∙ ap (λ ys. take c.args.blocks known ++ ys) (sym p.known)) p.allowed p.ring.0

pub invariant_of-self : goal.invariant_of-self
invariant_of-self c =
    let s = c.args.self.now in
    let t = gone (goal.at.invariant_of-self c).After-drop_blocks in
    record {
      whole = t.whole;
      counted = counts_one_more s.count (items_in (received s.consumer)) _ t.takes.item s.counted t.takes.received;
    }

pub returns : goal.returns
returns c = (_, (gone (goal.at.returns c).After-drop_blocks).takes)
