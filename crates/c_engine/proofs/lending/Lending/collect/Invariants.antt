use Rattle.std.proofs.Common.{◌≡◌, ◌+◌, ◌≤◌, ◌++◌, reverse, vec_capacity, vec_len}
use mathlib.Core.List.{IsPrefix}
use Rattle.c_engine.specs.Lendings.{HaveComeOf}
use Rattle.c_engine.proofs.lending.Lending.collect.Given as goal

-- what came back is left of those that were out first
abbrev pub invariant-loop-self : goal.invariant-loop-self
invariant-loop-self g l = record {
  began : l.self-inside.began.value.items ≡ l.fn.self.began;
  samplers : reverse l.self-inside.samplers.items ≡ l.fn.self.samplers;
  ends : IsPrefix l.fn.self.ends l.self-inside.ends.items;
  samplers_fit : vec_len l.self-inside.ways + vec_len l.self-inside.samplers ≤ vec_capacity l.self-inside.samplers;
  ways_fit : vec_len l.self-inside.ways + vec_len l.self-inside.samplers ≤ vec_capacity l.self-inside.ways;
  ends_fit :
      vec_len l.self-inside.ends + (vec_len l.self-inside.ways + vec_len l.self-inside.samplers)
      ≤ vec_capacity l.self-inside.ends;
  come :
      HaveComeOf g.R.Send.SendEnd g.R.Send.End.RingEnd l.self-inside.began.value.items l.self-inside.ends.items
      (l.self-inside.ways.items ++ reverse l.self-inside.samplers.items);
}

abbrev pub decreases-loop-self : goal.decreases-loop-self
decreases-loop-self g l = vec_len l.self-inside.ways
