use Rattle.std.proofs.Common.{ℕ, List, [], ◌∷◌, ◌++◌, take, sym, ap, ◌∙◌, arith, get_or}
use Rattle.xcp_base.specs.Copied.{copied_at}
use Rattle.xcp_base.proofs.FourLemmas.{copied_at-four, four_pieces, length-copied_at-spans}
use Rattle.xcp_base.proofs.put.put_four.Goals as goal

-- each span copies a part of what all four copy
pub put_span-second-requires-clause-room : goal.put_span-second-requires-clause-room
put_span-second-requires-clause-room g c =
    let lens = length-copied_at-spans c.args.bytes.now g.row.N c.args.four.now c.told-four in
    omega (arith, c.requires.room, lens)

pub put_span-third-requires-clause-room : goal.put_span-third-requires-clause-room
put_span-third-requires-clause-room g c =
    let lens = length-copied_at-spans c.args.bytes.now g.row.N c.args.four.now c.told-four in
    omega (arith, c.requires.room, c.put_span-second.ensures.end, c.put_span-second.ensures.len, lens)

pub put_span-fourth-requires-clause-room : goal.put_span-fourth-requires-clause-room
put_span-fourth-requires-clause-room g c =
    let lens = length-copied_at-spans c.args.bytes.now g.row.N c.args.four.now c.told-four in
    omega (arith, c.requires.room, c.put_span-second.ensures.end, c.put_span-third.ensures.end, c.put_span-second.ensures.len, c.put_span-third.ensures.len, lens)

pub put_span-requires-clause-room : goal.put_span-requires-clause-room
put_span-requires-clause-room g c =
    let lens = length-copied_at-spans c.args.bytes.now g.row.N c.args.four.now c.told-four in
    omega (arith, c.requires.room, c.put_span-second.ensures.end, c.put_span-third.ensures.end, c.put_span-fourth.ensures.end, c.put_span-second.ensures.len, c.put_span-third.ensures.len, c.put_span-fourth.ensures.len, lens)

pub returns-clause-end : goal.returns-clause-end
returns-clause-end g c =
    let lens = length-copied_at-spans c.args.bytes.now g.row.N c.args.four.now c.told-four in
    omega (arith, c.put_span-second.ensures.end, c.put_span-third.ensures.end, c.put_span-fourth.ensures.end, c.put_span.ensures.end, lens)

-- each stands behind the one before it
pub returns-clause-front : goal.returns-clause-front
returns-clause-front g c =
    let copy : ℕ → List ℕ = λ k. copied_at c.args.bytes.now g.row.N (get_or c.args.four.now k 0 ∷ []) in
    let front : List ℕ = take c.args.from c.args.cells.now in
    let two = c.put_span-third.ensures.front ∙ ap (λ bytes. bytes ++ copy 1) c.put_span-second.ensures.front in
    let three = c.put_span-fourth.ensures.front ∙ ap (λ bytes. bytes ++ copy 2) two in
    let four = c.put_span.ensures.front ∙ ap (λ bytes. bytes ++ copy 3) three in
    let all = copied_at-four c.args.bytes.now g.row.N c.args.four.now c.told-four in
    four ∙ four_pieces front (copy 0) (copy 1) (copy 2) (copy 3) ∙ ap (λ bytes. front ++ bytes) (sym all)
