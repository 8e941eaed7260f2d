use Rattle.std.proofs.Common.{◌≡◌, [], length, ap, ◌∙◌, sym, subst, arith}
use Rattle.xcp_base.specs.Inner.{IsWholeBody, packets_in}
use Rattle.xcp_base.proofs.IterLemmas.{BeginsWith, begins_with, packets_in-nil}
use Rattle.xcp_base.proofs.packet_iter.PacketIterIterator.next.Goals as goal
use Rattle.xcp_base.proofs.packet_iter.PacketIterIterator.next.Goals.{In-Some}

-- nothing is left where no byte is left
pub returns-in_default-clause-steps : goal.returns-in_default-clause-steps
returns-in_default-clause-steps c =
    let none : c.args.self.now ≡ [] = sym c.self.view_is ∙ packets_in-nil c.self.inside.rest.now c.in_default.ensures.cases in
    (none, none)

-- the first byte is the first packet's length
first : (c : In-Some) → BeginsWith c.self.inside.rest.now c.in-Some.behind.now c.in-Some.len.now
first c = begins_with c.self.inside.rest.now c.in-Some.behind.now c.in-Some.len.now c.self.invariant c.in-Some.ensures.cases.0

pub split_at-requires : goal.split_at-requires
split_at-requires c = (first (goal.at.split_at-requires c).In-Some).within

pub invariant_of-self : goal.invariant_of-self
invariant_of-self c = subst IsWholeBody (sym c.split_at.ensures.back) (first (goal.at.invariant_of-self c).In-Some).rest

pub returns-clause-steps : goal.returns-clause-steps
returns-clause-steps c =
    rw (c.split_at.ensures.front, c.split_at.ensures.back) (sym c.self.view_is ∙ (first (goal.at.returns-clause-steps c).In-Some).packets)

-- one packet fewer is left
pub returns-clause-goes : goal.returns-clause-goes
returns-clause-goes c =
    let are = sym c.self.view_is ∙ (first (goal.at.returns-clause-goes c).In-Some).packets in
    let left = ap (λ bytes. length (packets_in bytes)) c.split_at.ensures.back in
    record { on = λ _. (tt, tt, omega (arith, ap length are, left)); keeps = tt; rests = λ _. tt }
