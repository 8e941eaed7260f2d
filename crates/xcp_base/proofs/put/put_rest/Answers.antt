use Rattle.std.proofs.Common.{◌+◌, ◌++◌, ℕ, List, [], ◌∷◌, length, take, ap, ◌∙◌, append-nil, arith, get_or}
use Rattle.std.specs.Prelude.{slice_range}
use Rattle.std.proofs.lemmas.List.Folds.{length-flat_map-take}
use Rattle.xcp_base.specs.Copied.{copied_at}
use Rattle.xcp_base.proofs.CopiedLemmas.{length-more, written_more}
use Rattle.xcp_base.proofs.put.put_rest.Goals as goal

-- what the next span copies is a part of what all copy
pub put_span-at-requires-clause-room : goal.put_span-at-requires-clause-room
put_span-at-requires-clause-room g c =
    let copy : ℕ → List ℕ = λ o. slice_range c.args.bytes.now o (o + g.row.N) in
    let alone = ap length (append-nil (copy (get_or c.args.offsets.now c.loop-offset.offset-index 0))) in
    omega (arith, c.requires.room, c.loop-offset.invariant.0, c.loop-offset.invariant.2, alone, length-flat_map-take copy c.args.offsets.now c.loop-offset.offset-index 0 c.loop-offset-test.true)

-- one span more is written behind those so far
pub loop-offset-preserved : goal.loop-offset-preserved
loop-offset-preserved g c =
    let copy : ℕ → List ℕ = λ o. copied_at c.args.bytes.now g.row.N (o ∷ []) in
    let next : ℕ = get_or c.args.offsets.now c.loop-offset.offset-index 0 in
    let long = length-more c.args.bytes.now g.row.N c.args.offsets.now c.loop-offset.offset-index c.loop-offset-test.true in
    let more = written_more c.args.bytes.now g.row.N c.args.offsets.now c.loop-offset.offset-index c.loop-offset-test.true (take c.args.from c.args.cells.now) in (
      omega (arith, c.put_span-at.ensures.end, c.loop-offset.invariant.0, long),
      c.put_span-at.ensures.front ∙ ap (λ bytes. bytes ++ copy next) c.loop-offset.invariant.1 ∙ more,
      c.put_span-at.ensures.len ∙ c.loop-offset.invariant.2,
    )
