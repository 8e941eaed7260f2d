use Rattle.std.proofs.Common.{refl, inl, inr}
use Rattle.datagrams.proofs.ip.packet_in.Goals as goal

-- neither of version 4 nor of version 6
pub returns-clause-none : goal.returns-clause-none
returns-clause-none c none packet is =
    elim is as (λ _. ⊥) [ inl four ↦ c.in_default.ensures.none refl four.0 | inr six ↦ c.ipv6_in.ensures.none none packet six ]
