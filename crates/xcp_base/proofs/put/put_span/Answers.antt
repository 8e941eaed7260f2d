use Rattle.std.proofs.Common.{arith}
use Rattle.xcp_base.proofs.CopiedLemmas.{length-copied_at-one}
use Rattle.xcp_base.proofs.put.put_span.Goals as goal

-- a span of N bytes copies so many
pub put_number-requires : goal.put_number-requires
put_number-requires g c =
    let size = length-copied_at-one c.args.bytes.now g.row.N c.args.offset c.requires.inside in
    omega (arith, c.requires.room, size)

pub returns-clause-end : goal.returns-clause-end
returns-clause-end g c =
    let size = length-copied_at-one c.args.bytes.now g.row.N c.args.offset c.requires.inside in
    omega (arith, size)
