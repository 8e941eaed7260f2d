use Rattle.std.proofs.Common.{◌≡◌, ◌+◌, suc, arith, length, ap, refl, subst}
use Rattle.std.proofs.lemmas.List.{length-drop}
use Rattle.rtrb.specs.Ring.{known_items}
use Rattle.frame_ring.specs.Inner.{PopsFront}
use Rattle.frame_ring.proofs.EndLemmas.{same_then}
use Rattle.frame_ring.proofs.PopLemmas.{pops-next, pops-none}
use Rattle.frame_ring.proofs.frame_take.drop_blocks.Goals as goal

pub loop-init : goal.loop-init
loop-init c = pops-none c.args.consumer.now ((refl, refl, refl, refl), refl)

pub pop_known-requires : goal.pop_known-requires
pop_known-requires c =
    omega (arith, c.loop-test.true, c.requires.there, ap length c.loop.invariant.known, length-drop c.loop.counter (known_items c.args.consumer.now))

pub loop-preserved : goal.loop-preserved
loop-preserved c =
    let one : suc c.loop.counter ≡ c.loop.counter + 1 = omega arith in
    let p = c.pop_known.ensures in
    subst (λ n. PopsFront n c.args.consumer.now c.pop_known.new.self) one
    (pops-next c.loop.counter c.args.consumer.now c.loop.consumer c.pop_known.new.self c.pop_known.result c.loop.invariant
    (same_then c.args.consumer.now c.loop.consumer c.pop_known.new.self c.loop.invariant.ring p.ring) p.received.0 p.received.1 p.allowed)
