use Rattle.std.proofs.Common.{◌≡◌, ℕ, zero, suc, ◌<◌, Bool, false, IsTrue, length, map, refl, sym, ap, ◌∙◌, arith, below_more}
use Rattle.std.proofs.lemmas.Bool.{false≢true}
use Rattle.std.proofs.lemmas.List.{length-map}
use Rattle.sampler.specs.State.{JoinedEnd, SamplerEndState, joined, sent_by}
use Rattle.transmitter.specs.Merge.{of_ring}
use Rattle.transmitter.proofs.RingLemmas.{all_stay-more, as_many, each_left, each_none}
use Rattle.transmitter.proofs.drain.look.Goals as goal
use Rattle.transmitter.proofs.drain.look.Goals.{then-some, else-some}

nothing : (b : Bool) (n : ℕ) → b ≡ false → (0 < n → IsTrue b) → n ≡ 0
nothing b zero e h = refl
nothing b (suc n) e h = absurd (false≢true (sym e ∙ h (omega arith)))

-- one ring more
pub loop-c-preserved : goal.loop-c-preserved
loop-c-preserved g c =
    let i = c.loop-c.invariant in
    let e = c.look_at-here.ensures in
    record {
      stay = all_stay-more i.stay e.stay;
      left = below_more _ _ (λ k h. rw (e.stay.received, e.others k (omega (arith, h))) (i.left k h)) (e.left ∙ ap (λ t. of_ring (sent_by t) c.loop-c.c) i.stay.ends.ends);
      some = λ h. elim c.if-some.branch [
        | then-some w ↦ let p = i.some w.if-some.true in (p.0, omega (arith, p.1), rw (e.others p.0 (omega (arith, p.1))) p.2)
        | else-some w ↦ (c.loop-c.c, omega arith, e.some.0 (sym w.some-is ∙ h))
      ];
      none = λ h. elim c.if-some.branch [
        | then-some w ↦ absurd (false≢true (sym h ∙ (w.some-is ∙ w.if-some.true)))
        | else-some w ↦ below_more _ _ (λ k b. rw (e.others k (omega (arith, b))) (i.none w.if-some.false k b)) (nothing _ _ (sym w.some-is ∙ h) e.some.1)
      ];
    }

pub returns-clause-some : goal.returns-clause-some
returns-clause-some g c = λ h. let p = c.loop-c.invariant.some h in (p.0, p.2)

pub returns-clause-left : goal.returns-clause-left
returns-clause-left g c = λ k.
    let t = g.T.TakeEnd in
    let r = g.T.End.RingEnd in
    let name_of = λ (e : SamplerEndState g.row.T-End.Denot). r.ring e.end in
    let i = c.loop-c.invariant in
    let xs = c.loop-c.takes.items in
    let ys = c.args.ends.now in
    let rings : map t.ring xs ≡ map name_of ys = i.stay.rings ∙ c.requires.rings in
    let sent = length-map (map (joined r) ys) (λ (e : JoinedEnd). e.sent) ∙ length-map ys (joined r) in
    each_left (map t.received xs) (map t.known xs) (sent_by (map (joined r) ys)) (length ys) (as_many t.ring name_of t.received xs ys rings) (as_many t.ring name_of t.known xs ys rings) sent (λ j b. i.left j (omega (arith, b, c.loop-c.auto.c-end))) k

pub returns-clause-none : goal.returns-clause-none
returns-clause-none g c = λ h k.
    let t = g.T.TakeEnd in
    let name_of = λ (e : SamplerEndState g.row.T-End.Denot). g.T.End.RingEnd.ring e.end in
    let i = c.loop-c.invariant in
    let xs = c.loop-c.takes.items in
    let ys = c.args.ends.now in
    let rings : map t.ring xs ≡ map name_of ys = i.stay.rings ∙ c.requires.rings in
    each_none (map t.known xs) (length ys) (as_many t.ring name_of t.known xs ys rings) (λ j b. i.none h j (omega (arith, b, c.loop-c.auto.c-end))) k
