use Rattle.std.proofs.Common.{◌≡◌, ◌∙◌, ◌<◌, ◌++◌, [], ◌∷◌, ap, arith, length}
use Rattle.std.proofs.lemmas.Grind.{common_steps}
use Rattle.c_engine.specs.Lendings.{LendingState}
use Rattle.c_engine.proofs.LendingLemmas.{as-before, back-again, last-gone, rest-same, some-out}
use Rattle.c_engine.proofs.lending.Lending.take_back.Goals as goal

-- there is room for the one that is out
pub push_reserved-requires : goal.push_reserved-requires
push_reserved-requires g c =
    let out : c.self.inside.ways.items ≡ c.requires.0.out ++ c.args.lent ∷ []
    = ap (λ (l : LendingState _ _). l.out) c.self.view_is ∙ c.requires.1.out in
    let some : 0 < length c.self.inside.ways.items = some-out _ _ _ out in
    grind (arith, common_steps)

-- it is the first that isn't out again
pub invariant_of-self : goal.invariant_of-self
invariant_of-self g c =
    let out : c.self.inside.ways.items ≡ c.requires.0.out ++ c.args.lent ∷ []
    = ap (λ (l : LendingState _ _). l.out) c.self.view_is ∙ c.requires.1.out in
    let some : 0 < length c.self.inside.ways.items = some-out _ _ _ out in
    let gone = last-gone _ _ _ _ _ (grind (arith, common_steps)) out c.pop.ensures.rest in (
      grind (arith, common_steps),
      grind (arith, common_steps),
      grind (arith, common_steps),
      rest-same g.R.Send.SendEnd g.R.Send.End.RingEnd c.self.inside.began.value.items c.self.inside.ends.items
          (back-again _ _ _ _ _ _ _ out gone c.into_sampler.ensures c.push_reserved.ensures.items) c.self.invariant.3,
    )

-- all is as before
pub returns : goal.returns
returns g c before lends =
    let out = ap (λ (l : LendingState _ _). l.out) c.self.view_is ∙ lends.out in
    let gone = last-gone _ _ _ _ _ (grind (arith, common_steps)) out c.pop.ensures.rest in
    as-before _ _ _ _ _ _ _ _ _ _ c.self.view_is lends gone c.into_sampler.ensures c.push_reserved.ensures.items
