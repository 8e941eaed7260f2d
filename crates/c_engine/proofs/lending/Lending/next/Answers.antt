use Rattle.std.proofs.Common.{◌≡◌, ◌<◌, ap, arith, length, refl, reverse, sym}
use Rattle.std.proofs.lemmas.Grind.{common_steps}
use Rattle.std.proofs.lemmas.List.{length-reverse}
use Rattle.c_engine.specs.Lendings.{LendingState}
use Rattle.c_engine.proofs.LendingLemmas.{back-again, rest-same, some-out}
use Rattle.c_engine.proofs.lending.Lending.next.Goals as goal

-- there was the one that isn't handed out
pub returns-in-Err-clause-wanted : goal.returns-in-Err-clause-wanted
returns-in-Err-clause-wanted g c =
    let some : 0 < length c.self.inside.samplers.items = some-out _ _ _ c.in-Some.ensures.items in
    let is = ap (λ (l : LendingState _ _). length l.samplers) c.self.view_is in
    omega (arith, some, is, length-reverse c.self.inside.samplers.items)

-- the first that wasn't out is the last that is
pub invariant_of-self-in-Ok : goal.invariant_of-self-in-Ok
invariant_of-self-in-Ok g c =
    let same = back-again _ _ _ _ _ _ _ c.push_reserved.ensures.items refl (sym c.in-Ok.ensures.way) c.in-Some.ensures.items in (
      grind (arith, common_steps),
      grind (arith, common_steps),
      grind (arith, common_steps),
      rest-same g.R.Send.SendEnd g.R.Send.End.RingEnd c.self.inside.began.value.items c.self.inside.ends.items (sym same) c.self.invariant.3,
    )
