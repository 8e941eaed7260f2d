use Rattle.std.proofs.Common.{arith, refl, ◌≡◌}
use Rattle.xcp_base.proofs.BodyLemmas.{no_body_with_more, no_body_without, no_front, one_more_packet}
use Rattle.xcp_base.proofs.packets.is_body_of.Goals as goal

pub loop-init : goal.loop-init
loop-init c = no_front c.args.body.now

-- where the bytes are a body of as many packets, there is another one
pub returns-in_default-clause-no : goal.returns-in_default-clause-no
returns-in_default-clause-no c = λ _.
    no_body_without c.loop.counter c.loop.end c.args.count c.args.body.now c.loop.invariant (omega (arith, c.loop-test.true)) (c.in_default.ensures.none refl)

pub loop-preserved : goal.loop-preserved
loop-preserved c = one_more_packet c.loop.counter c.loop.end c.in-Some.next c.args.body.now c.loop.invariant c.in-Some.ensures.some

-- and nothing behind the last one
pub returns-then-end-body-clause-no : goal.returns-then-end-body-clause-no
returns-then-end-body-clause-no c = λ _ qs is.
    let all : c.loop.counter ≡ c.args.count = omega (arith, c.loop-test.false, c.loop.auto.counter-end) in
    no_body_with_more c.loop.counter c.loop.end c.args.body.now c.loop.invariant c.if-end-body.true qs (rw all is)
