use Rattle.std.proofs.Common.{◌/◌, ◌<◌, ◌++◌, ℕ, List, length, take, ap, sym, ◌∙◌, append_assoc, arith, length-append}
use Rattle.std.proofs.lemmas.List.Elements.{All-from_get_or}
use Rattle.xcp_base.specs.Copied.{IsSpanAt, copied_at, in_fours}
use Rattle.xcp_base.proofs.CopiedLemmas.{copied_at_small}
use Rattle.xcp_base.proofs.FourLemmas.{All-fours, copied_at-fours_then_rest}
use Rattle.xcp_base.proofs.put.put_spans_of.Goals as goal

-- the spans of the fours are some of all
pub put_fours-at-requires-clause-inside : goal.put_fours-at-requires-clause-inside
put_fours-at-requires-clause-inside g c =
    All-fours (IsSpanAt (length c.args.bytes.now) g.row.N) (length c.args.offsets.now / 4) c.as_chunks.result.0.now c.args.offsets.now c.as_chunks.ensures.front c.requires.inside

-- the fours copy the front of what all copy, the rest what is behind it
pub put_fours-at-requires-clause-room : goal.put_fours-at-requires-clause-room
put_fours-at-requires-clause-room g c =
    let these : List ℕ = copied_at c.args.bytes.now g.row.N (in_fours c.as_chunks.result.0.now) in
    let those : List ℕ = copied_at c.args.bytes.now g.row.N c.as_chunks.result.1.now in
    let both = copied_at-fours_then_rest c.args.bytes.now g.row.N (length c.args.offsets.now / 4) c.as_chunks.result.0.now c.as_chunks.result.1.now c.args.offsets.now c.as_chunks.ensures.front c.as_chunks.ensures.back in
    omega (arith, c.requires.room, ap length both, length-append these those)

pub put_rest-requires-clause-room : goal.put_rest-requires-clause-room
put_rest-requires-clause-room g c =
    let these : List ℕ = copied_at c.args.bytes.now g.row.N (in_fours c.as_chunks.result.0.now) in
    let those : List ℕ = copied_at c.args.bytes.now g.row.N c.as_chunks.result.1.now in
    let both = copied_at-fours_then_rest c.args.bytes.now g.row.N (length c.args.offsets.now / 4) c.as_chunks.result.0.now c.as_chunks.result.1.now c.args.offsets.now c.as_chunks.ensures.front c.as_chunks.ensures.back in
    omega (arith, c.requires.room, c.put_fours-at.ensures.end, c.put_fours-at.ensures.len, ap length both, length-append these those)

pub returns-clause-end : goal.returns-clause-end
returns-clause-end g c =
    let these : List ℕ = copied_at c.args.bytes.now g.row.N (in_fours c.as_chunks.result.0.now) in
    let those : List ℕ = copied_at c.args.bytes.now g.row.N c.as_chunks.result.1.now in
    let both = copied_at-fours_then_rest c.args.bytes.now g.row.N (length c.args.offsets.now / 4) c.as_chunks.result.0.now c.as_chunks.result.1.now c.args.offsets.now c.as_chunks.ensures.front c.as_chunks.ensures.back in
    omega (arith, c.put_fours-at.ensures.end, c.put_rest.ensures.end, ap length both, length-append these those)

pub returns-clause-front : goal.returns-clause-front
returns-clause-front g c =
    let front : List ℕ = take c.args.from c.args.cells.now in
    let these : List ℕ = copied_at c.args.bytes.now g.row.N (in_fours c.as_chunks.result.0.now) in
    let those : List ℕ = copied_at c.args.bytes.now g.row.N c.as_chunks.result.1.now in
    let both = copied_at-fours_then_rest c.args.bytes.now g.row.N (length c.args.offsets.now / 4) c.as_chunks.result.0.now c.as_chunks.result.1.now c.args.offsets.now c.as_chunks.ensures.front c.as_chunks.ensures.back in
    c.put_rest.ensures.front
    ∙ ap (λ bytes. bytes ++ those) c.put_fours-at.ensures.front
    ∙ append_assoc front these those
    ∙ ap (λ bytes. front ++ bytes) (sym both)

-- what is copied of bytes are bytes
pub returns-clause-each : goal.returns-clause-each
returns-clause-each g c =
    let small = All-from_get_or (λ (b : ℕ). b < 256) c.args.bytes.now 0 (λ k h. (c.type_inv.bytes k).fits) in
    copied_at_small c.args.bytes.now g.row.N c.args.offsets.now small
