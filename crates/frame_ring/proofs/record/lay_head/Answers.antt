use Rattle.std.proofs.Common.{◌≡◌, ◌∙◌, ap, get_or, take, ◌++◌, ◌∷◌, ◌+◌, arith}
use Rattle.std.specs.Int.{from_le_bytes, to_le_bytes, w32, w64}
use Rattle.frame_ring.proofs.LayLemmas.{front_is, head_laid}
use Rattle.frame_ring.proofs.record.lay_head.Goals as goal

-- its two parts, one behind the other
pub returns-clause-bytes : goal.returns-clause-bytes
returns-clause-bytes c =
    let bytes : c.from_le_bytes-front.result ≡ from_le_bytes w64 (1 ∷ c.args.channel ∷ c.args.list ∷ c.args.count ∷ to_le_bytes w32 c.args.len)
    = omega (arith, c.from_le_bytes-front.ensures, c.byte.ensures.value, c.byte-2.ensures.value, ap (λ bs. get_or bs 0 0) c.to_le_bytes.ensures, ap (λ bs. get_or bs 1 0) c.to_le_bytes.ensures, ap (λ bs. get_or bs 2 0) c.to_le_bytes.ensures, ap (λ bs. get_or bs 3 0) c.to_le_bytes.ensures) in
    let front : to_le_bytes w64 c.from_le_bytes-front.result ≡ 1 ∷ c.args.channel ∷ c.args.list ∷ c.args.count ∷ to_le_bytes w32 c.args.len
    = front_is c.args.channel c.args.list c.args.count c.args.len c.from_le_bytes-front.result (omega (arith, c.byte.ensures.value, c.byte.ensures.below)) (omega (arith, c.byte-2.ensures.value, c.byte-2.ensures.below)) c.ranges.count.fits bytes in
    head_laid c.args.at c.args.out.now c.put_number.new.cells c.put_number-2.new.cells (1 ∷ c.args.channel ∷ c.args.list ∷ c.args.count ∷ to_le_bytes w32 c.args.len) (to_le_bytes w64 c.args.number)
    (c.put_number.ensures.front ∙ ap (λ b. take c.args.at c.args.out.now ++ b) (c.to_le_bytes-2.ensures ∙ front))
    (c.put_number-2.ensures.front ∙ ap (λ b. take (c.args.at + 8) c.put_number.new.cells ++ b) c.to_le_bytes-3.ensures)
