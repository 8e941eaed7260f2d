use Rattle.std.proofs.Common.{◌∙◌, ◌<◌, ◌+◌, [], ◌∷◌, ap, ◌++◌, arith, length, refl, sym, take}
use Rattle.std.proofs.lemmas.Grind.{take-set_at}
use Rattle.std.proofs.lemmas.List.{take-set}
use Rattle.std.proofs.Math.ListN.{set}
use Rattle.rtrb.specs.Ring.{known_items}
use Rattle.byte_ring.proofs.FrontLemmas.{next_byte}
use Rattle.byte_ring.proofs.first_record.see_next.Goals as goal

-- the byte behind those held is the next one of the ring
pub returns-clause-sees : goal.returns-clause-sees
returns-clause-sees c =
    let f = c.args.front.now in
    let known = known_items c.args.consumer.now in
    let b = c.peek_known.result.now in
    let inside : f.held < length f.bytes = omega (arith, f.within) in
    let next = next_byte b f.ahead known c.peek_known.ensures.0 c.peek_known.ensures.1 c.requires.some in
    take-set_at f.bytes f.held (f.held + 1) b refl inside
    ∙ ap (λ l. l ++ b ∷ []) (sym (take-set f.bytes f.held b))
    ∙ ap (λ l. take f.held (set f.bytes f.held b) ++ l) (sym next)
