use Rattle.std.proofs.Common.{◌≡◌, ◌<◌, ◌≤◌, ◌+◌, ℕ, List, [], length, take, drop, get_or, arith, ap, ◌∙◌, sym, subst}
use Rattle.std.proofs.lemmas.List.Elements.{All-get_or}
use Rattle.std.specs.Prelude.{Some}
use Rattle.xcp_base.specs.Packets.{ArePackets, IsPacket}
use Rattle.xcp_base.proofs.PacketsLemmas.{StandsAt, stands_at, slice_get-get_or}
use Rattle.xcp_base.proofs.packets.Packets.get.Goals as goal
use Rattle.xcp_base.proofs.packets.Packets.get.Goals.{After-loop}

pub loop-init : goal.loop-init
loop-init c = rw (c.as_slice-rest.ensures.value, ← c.self.view_is) c.self.invariant.body

pub after_first-rest-requires : goal.after_first-rest-requires
after_first-rest-requires c =
    let at : StandsAt c.loop.rest.now c.args.self.now c.loop.counter =
    stands_at c.loop.rest.now c.args.self.now c.loop.counter (omega (arith, ap length c.self.view_is, c.self.invariant.count)) c.loop.invariant in
    record { some = omega (arith, at.whole); whole = omega (arith, at.whole, at.len) }

pub loop-preserved : goal.loop-preserved
loop-preserved c =
    let at : StandsAt c.loop.rest.now c.args.self.now c.loop.counter =
    stands_at c.loop.rest.now c.args.self.now c.loop.counter (omega (arith, ap length c.self.view_is, c.self.invariant.count)) c.loop.invariant in
    c.after_first-rest.ensures ∙ ap (λ n. drop (1 + n) c.loop.rest.now) at.len ∙ at.next

-- the loop went on to the packet that is asked for
at_index : (c : After-loop) → c.args.index ≤ c.loop.counter → c.args.index < c.self.inside.count → StandsAt c.loop.rest.now c.args.self.now c.args.index
at_index c done more =
    let e : c.loop.counter ≡ c.args.index = omega arith in
    let P : ℕ → Type 0 = λ i. StandsAt c.loop.rest.now c.args.self.now i in
    subst P e (stands_at c.loop.rest.now c.args.self.now c.loop.counter (omega (arith, ap length c.self.view_is, c.self.invariant.count)) c.loop.invariant)

pub first-requires : goal.first-requires
first-requires c =
    let at : StandsAt c.loop.rest.now c.args.self.now c.args.index =
    at_index (goal.at.first-requires c).After-loop c.loop-test.false c.if-index-self.false in
    record { some = omega (arith, at.whole); whole = omega (arith, at.whole, at.len) }

pub returns : goal.returns
returns c =
    let w : After-loop = (goal.at.returns c).After-loop in
    let qs : List (List ℕ) = c.args.self.now in
    let at : StandsAt c.loop.rest.now qs c.args.index = at_index w c.loop-test.false c.if-index-self.false in
    let here : c.args.index < length qs = omega (arith, ap length c.self.view_is, c.self.invariant.count) in
    let each : ArePackets qs = let P : List (List ℕ) → Type 0 = λ xs. ArePackets xs in subst P c.self.view_is c.self.invariant.each in
    let is : c.first.result.now ≡ get_or qs c.args.index [] = c.first.ensures ∙ ap (λ n. take n (drop 1 c.loop.rest.now)) at.len ∙ at.packet in
    record {
      value = ap Some is ∙ sym (slice_get-get_or qs c.args.index here);
      packet = rw is (All-get_or IsPacket qs c.args.index [] here each);
    }
