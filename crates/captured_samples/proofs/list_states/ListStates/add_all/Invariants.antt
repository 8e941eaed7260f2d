use Rattle.std.specs.Prelude.{◌≡◌, take}
use Rattle.captured_samples.specs.Slaves.{Tells, states_of}
use Rattle.captured_samples.specs.Standing.{ListsIn, told_facts, with_facts}
use Rattle.captured_samples.proofs.list_states.ListStates.add_all.Given as goal

-- the lists of the facts before were begun
abbrev pub invariant-loop-fact : goal.invariant-loop-fact
invariant-loop-fact g l =
    (ls : ListsIn) → l.fn.self ≡ states_of ls
    → (l.self ≡ states_of (with_facts l.set_up (take l.fact-index l.set_up.facts) ls))
    × Tells (g.S.SampleSink.told l.fn.sink) (g.S.SampleSink.told l.sink) (told_facts l.set_up (take l.fact-index l.set_up.facts) ls)
