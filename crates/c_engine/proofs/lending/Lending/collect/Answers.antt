use Rattle.std.proofs.Common.{◌≡◌, ◌++◌, List, [], ◌∷◌, ap, arith, reverse, subst}
use Rattle.std.proofs.lemmas.Grind.{common_steps}
use Rattle.sampler.specs.State.{SamplerState}
use Rattle.c_engine.specs.Lendings.{HaveComeOf, LendingState}
use Rattle.c_engine.proofs.LendingLemmas.{came, prefix-more, prefix-same}
use Rattle.c_engine.proofs.lending.Lending.collect.Goals as goal

-- at first nothing more came
pub loop-self-init : goal.loop-self-init
loop-self-init g c = record {
  began = ap (λ (l : LendingState _ _). l.began) c.self.view_is;
  samplers = ap (λ (l : LendingState _ _). l.samplers) c.self.view_is;
  ends = prefix-same _ _ (ap (λ (l : LendingState _ _). l.ends) c.self.view_is);
  samplers_fit = c.self.invariant.0;
  ways_fit = c.self.invariant.1;
  ends_fit = c.self.invariant.2;
  come = c.self.invariant.3;
}

-- what came back is left of the first that was out
pub loop-self-preserved : goal.loop-self-preserved
loop-self-preserved g c =
    let first = c.in-Some.ensures.first in
    record {
      began = c.loop-self.invariant.began;
      samplers = c.loop-self.invariant.samplers;
      ends = rw c.push_reserved.ensures.items (prefix-more _ _ (c.in-Some.end ∷ []) c.loop-self.invariant.ends);
      samplers_fit = grind (arith, common_steps);
      ways_fit = grind (arith, common_steps);
      ends_fit = grind (arith, common_steps);
      come = rw c.push_reserved.ensures.items
          (came g.R.Send.SendEnd g.R.Send.End.RingEnd c.loop-self.self-inside.began.value.items c.loop-self.self-inside.ends.items c.in-Some.end
          first.0 c.loop-self.self-inside.ways.items c.first_end.new.ways.items (reverse c.loop-self.self-inside.samplers.items) first.1 first.2
          c.loop-self.invariant.come);
    }

-- what hasn't come back is out as before
pub invariant_of-self : goal.invariant_of-self
invariant_of-self g c =
    let kept = c.loop-self.invariant in
    let none = c.in_default.ensures in (
      omega (arith, none.len, none.capacity),
      omega (arith, none.len, none.capacity),
      omega (arith, none.len, none.capacity),
      rw none.none kept.come,
    )

-- nothing is out, and nothing wasn't handed out
pub returns-clause-all : goal.returns-clause-all
returns-clause-all g c all =
    let lending = c.loop-self.self-inside in
    let rest : lending.ways.items ++ reverse lending.samplers.items ≡ [] = grind (arith, common_steps) in
    subst (λ (xs : List (SamplerState _)). HaveComeOf g.R.Send.SendEnd g.R.Send.End.RingEnd lending.began.value.items lending.ends.items xs)
    rest c.loop-self.invariant.come
