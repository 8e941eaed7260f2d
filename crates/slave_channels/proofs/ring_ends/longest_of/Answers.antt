use Rattle.std.proofs.Common.{◌≡◌, get_or, inl, inr, sym, ap, ◌∙◌, subst, arith}
use Rattle.std.proofs.lemmas.Bool.Decides.{eqb_tells}
use Rattle.std.proofs.lemmas.List.{get_or_default}
use Rattle.frame_ring.specs.Ends.{limit_of}
use Rattle.sampler.specs.Limits.{KeepsTo}
use Rattle.slave_channels.proofs.RoomLemmas.{keeps_to_more}
use Rattle.slave_channels.proofs.ring_ends.longest_of.Goals as goal

-- there is room for one plan more
pub loop-i-preserved : goal.loop-i-preserved
loop-i-preserved c =
    let plans = c.args.plans.now in
    let i = c.loop-i.i in
    let room = c.room_with-room.result in
    let with = c.room_with-room.ensures in (
      omega (arith, c.loop-i.invariant.0, with.least),
      with.few,
      λ k d below.
          elim (eqb_tells k i) [
            | inl w ↦
                let here : get_or plans k d ≡ c.index-plans-i.result =
                ap (λ n. get_or plans n d) w.1 ∙ get_or_default plans i d c.index-plans-i.result c.loop-i-test.true ∙ sym c.index-plans-i.is in
                subst (KeepsTo (limit_of room)) (sym here) with.keeps
            | inr w ↦ keeps_to_more c.loop-i.room room (get_or plans k d) with.least (c.loop-i.invariant.2 k d (omega (arith, below, w.1)))
          ],
    )

pub returns-clause-keep : goal.returns-clause-keep
returns-clause-keep c = λ k d inside. c.loop-i.invariant.2 k d (omega (arith, inside, c.loop-i-test.false))
