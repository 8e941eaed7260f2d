use Rattle.std.proofs.Common.{◌≡◌, ◌+◌, ◌≤◌, ◌++◌, ℕ, List, length, take, drop, sym, ap, ◌∙◌, arith}
use Rattle.std.proofs.Math.Seq.{take-append-add}
use Rattle.std.proofs.lemmas.List.{length-take-le, take-append-drop, take-append-le}
use Rattle.xcp_base.proofs.put.put_first.Goals as goal

-- cells that begin with some bytes begin with the first of these too
take_less : (cells front bytes : List ℕ) (from n len : ℕ) → len ≤ n → from + n ≤ length cells → from ≡ length front
    → take (from + n) cells ≡ front ++ bytes → take (from + len) cells ≡ front ++ take len bytes
take_less cells front bytes from n len few room is e =
    let within : from + len ≤ length (take (from + n) cells) = omega (arith, few, length-take-le (from + n) cells room) in
    sym (ap (take (from + len)) (take-append-drop (from + n) cells))
    ∙ take-append-le (from + len) (take (from + n) cells) (drop (from + n) cells) within
    ∙ ap (take (from + len)) e
    ∙ ap (λ k. take (k + len) (front ++ bytes)) is
    ∙ take-append-add front bytes len

-- of the four bytes that were written, the first are kept
pub returns-clause-front : goal.returns-clause-front
returns-clause-front c =
    let long = length-take-le c.args.from c.args.cells.now (omega (arith, c.requires.room)) in
    take_less c.put_number.new.cells (take c.args.from c.args.cells.now) c.args.bytes c.args.from 4 c.args.len c.requires.few (omega (arith, c.requires.room, c.put_number.ensures.len)) (sym long) c.put_number.ensures.front
