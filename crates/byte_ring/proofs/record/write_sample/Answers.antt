use Rattle.std.proofs.Common.{arith, ◌≡◌, ◌∷◌, [], ◌+◌, ◌-◌, ◌++◌, ◌∙◌, List, ℕ, ap, append_assoc, length, length-append, take}
use Rattle.std.proofs.lemmas.List.{take_all, take_at}
use Rattle.std.specs.Int.{to_le_bytes, w64}
use borrow.Rule.Slice.PartMut.{post_of, put_mid}
use Rattle.xcp_base.specs.Bodies.{body_of}
use Rattle.byte_ring.specs.Records.{record_of}
use Rattle.byte_ring.proofs.HeldLemmas.{take-part}
use Rattle.byte_ring.proofs.RecordLemmas.{length-number}
use Rattle.byte_ring.proofs.record.write_sample.Goals as goal

-- the head, and the packets behind it
pub returns-clause-bytes : goal.returns-clause-bytes
unfolding record_of
returns-clause-bytes c =
    let n = length c.body-body.result.now in
    let head = c.copy_from_slice.new.self in
    let tail = c.copy_from_slice-2.new.self in
    let behind = post_of 0 12 c.args.out.now in
    let number : List ℕ = to_le_bytes w64 c.args.number in
    let count = length c.args.packets.now in
    let body = body_of c.args.packets.now in
    let is_head : head ≡ 1 ∷ c.args.channel ∷ c.args.list ∷ (number ++ count ∷ []) = c.copy_from_slice.ensures.after ∙ c.head_of.ensures ∙ ap (λ k. 1 ∷ c.args.channel ∷ c.args.list ∷ (number ++ k ∷ [])) c.len.ensures.value in
    let is_tail : tail ≡ body = c.copy_from_slice-2.ensures.after ∙ c.body-body.ensures.value in
    let twelve : length head ≡ 12 = omega (arith, ap length is_head, length-append number (count ∷ []), length-number c.args.number) in
    let same : 12 + n - 12 ≡ n = omega arith in
    let long : length tail ≡ n = ap length c.copy_from_slice-2.ensures.after in
    ap (λ k. take (12 + n) (put_mid 12 k (head ++ behind) tail)) same
    ∙ take-part 12 n n (head ++ behind) tail (omega (arith, twelve, length-append head behind)) (omega (arith, long))
    ∙ ap (λ l. l ++ take n tail) (take_at head behind 12 twelve)
    ∙ ap (λ l. head ++ l) (take_all n tail (omega (arith, long)))
    ∙ ap (λ l. l ++ tail) is_head
    ∙ ap (λ l. 1 ∷ c.args.channel ∷ c.args.list ∷ l) (append_assoc number (count ∷ []) tail)
    ∙ ap (λ l. 1 ∷ c.args.channel ∷ c.args.list ∷ (number ++ count ∷ l)) is_tail
