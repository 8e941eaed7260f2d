use Rattle.std.proofs.Common.{◌≡◌, ℕ, ◌+◌, ◌%◌, List, [], ◌++◌, length, take, drop, refl, sym, ap, ◌∙◌, arith, append-nil}
use Rattle.std.proofs.lemmas.List.{drop_all, take_all}
use Rattle.frame_writer.specs.Frame.{text, two_bytes, unnumbered}
use Rattle.frame_ring.proofs.NumberLemmas.{unnumbered_at}
use Rattle.frame_ring.proofs.fitting.number_one.Goals as goal

pub place-requires : goal.place-requires
place-requires c =
    let packets = c.requires.frame.packets in
    let of = c.requires.frame.of in
    let next = unnumbered_at c.args.frame.now packets c.args.counter 0 0 of.each (omega (arith, of.many)) refl of.are in
    record { room = omega (arith, next.there, ap length c.to_le_bytes-counter.ensures) }

pub returns-clause-numbered : goal.returns-clause-numbered
returns-clause-numbered c = λ packets of.
    let next = unnumbered_at c.args.frame.now packets c.args.counter 0 0 of.each (omega (arith, of.many)) refl of.are in
    let new = c.place.new.room in
    let cells = c.args.frame.now in
    let same : c.args.counter ≡ (c.args.counter + 0) % 65536 = omega (arith, c.ranges.counter.fits) in
    let end : 4 ≡ c.place.result = omega (arith, c.place.ensures.end, ap length c.to_le_bytes-counter.ensures) in
    next.numbered new
    (ap (λ n. take n new) end ∙ c.place.ensures.bytes ∙ ap (λ b. take 2 cells ++ b) (c.to_le_bytes-counter.ensures ∙ ap two_bytes same))
    (ap (λ n. drop n new) end ∙ c.place.ensures.behind ∙ ap (λ n. drop n cells) (sym end))
    ∙ ap (λ qs. text c.args.counter qs ++ unnumbered (drop 1 packets)) (take_all 1 packets (omega (arith, of.many)))
    ∙ ap (λ qs. text c.args.counter packets ++ unnumbered qs) (drop_all 1 packets (omega (arith, of.many)))
    ∙ append-nil (text c.args.counter packets)
