use Rattle.std.proofs.Common.{arith, sym, ap, ◌∙◌, ◌≡◌, ◌+◌, ◌++◌, length, take, drop}
use Rattle.frame_ring.proofs.NumberLemmas.{unnumbered_at}
use Rattle.frame_ring.proofs.fitting.number.Goals as goal

pub frame_end-end-requires : goal.frame_end-end-requires
frame_end-end-requires c =
    let packets = c.requires.frames.packets in
    let of = c.requires.frames.of in
    let so_far = c.loop-k.invariant.1 packets of in
    let next = unnumbered_at c.loop-k.frames packets c.args.counter c.loop-k.k c.loop-k.at of.each (omega (arith, c.loop-k-test.true, of.many)) so_far.0 so_far.1 in
    omega (arith, next.there)

pub place-requires : goal.place-requires
place-requires c =
    let packets = c.requires.frames.packets in
    let of = c.requires.frames.of in
    let so_far = c.loop-k.invariant.1 packets of in
    let next = unnumbered_at c.loop-k.frames packets c.args.counter c.loop-k.k c.loop-k.at of.each (omega (arith, c.loop-k-test.true, of.many)) so_far.0 so_far.1 in
    record { room = omega (arith, next.there, ap length c.to_le_bytes-counter.ensures) }

pub loop-k-preserved : goal.loop-k-preserved
loop-k-preserved c = (
  c.place.ensures.len ∙ c.loop-k.invariant.0,
  λ packets of.
      let so_far = c.loop-k.invariant.1 packets of in
      let next = unnumbered_at c.loop-k.frames packets c.args.counter c.loop-k.k c.loop-k.at of.each (omega (arith, c.loop-k-test.true, of.many)) so_far.0 so_far.1 in
      let new = c.place.new.room in
      let cells = c.loop-k.frames in
      let at = c.loop-k.at in
      let end : at + 4 ≡ c.place.result = omega (arith, c.place.ensures.end, ap length c.to_le_bytes-counter.ensures) in (
        c.frame_end-end.ensures ∙ next.ends,
        next.numbered new
            (ap (λ n. take n new) end ∙ c.place.ensures.bytes ∙ ap (λ b. take (at + 2) cells ++ b) c.to_le_bytes-counter.ensures)
            (ap (λ n. drop n new) end ∙ c.place.ensures.behind ∙ ap (λ n. drop n cells) (sym end)),
      ),
)
