use Rattle.std.specs.Prelude.{◌≡◌, take}
use Rattle.captured_session.specs.Lists.{mode_said, newest}
use Rattle.captured_session.proofs.newest.mode_in.Given as goal

-- what the facts before say
abbrev pub invariant-loop-fact : goal.invariant-loop-fact
invariant-loop-fact l = l.said ≡ newest (mode_said l.list) (take l.fact-index l.facts)
