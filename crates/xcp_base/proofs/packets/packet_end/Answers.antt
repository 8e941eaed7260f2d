use Rattle.std.proofs.Common.{arith}
use Rattle.xcp_base.proofs.BodyLemmas.{ends_at, length_at}
use Rattle.xcp_base.proofs.packets.packet_end.Goals as goal

-- a packet that begins there would have its length there
pub returns-then-len-body-clause-none : goal.returns-then-len-body-clause-none
returns-then-len-body-clause-none c = λ _ b.
    let l = length_at c.args.body.now c.args.start b in
    omega (arith, l.room, c.if-len-body.true)

pub returns-clause-some : goal.returns-clause-some
returns-clause-some c =
    ends_at c.args.body.now c.args.start (λ i. omega (arith, c.type_inv.body i)) c.if-start-body.false c.if-len-eq0.false c.if-len-gt-MAX_DTO.false c.if-len-body.false
