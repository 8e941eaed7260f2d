use Rattle.std.specs.Prelude.{◌≡◌, take}
use Rattle.captured_session.specs.Lists.{entries_said, newest}
use Rattle.captured_session.proofs.newest.entries_in.Given as goal

-- what the facts before say
abbrev pub invariant-loop-fact : goal.invariant-loop-fact
invariant-loop-fact l = l.said ≡ newest (entries_said l.list l.odt) (take l.fact-index l.facts)
