use Rattle.std.proofs.Common.{◌+◌, ◌<◌, length, arith, ◌∙◌}
use Rattle.std.proofs.lemmas.List.{length-set}
use Rattle.xcp_base.proofs.CopiedLemmas.{read-all, read-more}
use Rattle.xcp_base.proofs.put.bytes_at.Goals as goal

-- one byte more
pub loop-k-preserved : goal.loop-k-preserved
loop-k-preserved g c =
    let i = c.loop-k.invariant in
    let k = c.loop-k.k in
    let here : k < length c.loop-k.read = omega (arith, i.0, c.loop-k-test.true) in
    let there : c.args.from + k < length c.args.bytes.now = omega (arith, c.requires.inside, c.loop-k-test.true) in
    (length-set c.loop-k.read k _ ∙ i.0, read-more c.loop-k.read c.args.bytes.now c.args.from k here there i.1)

pub returns : goal.returns
returns g c =
    let i = c.loop-k.invariant in
    read-all c.loop-k.read c.args.bytes.now c.args.from g.row.N c.loop-k.k i.0 c.loop-k-test.false c.loop-k.auto.k-end i.1
