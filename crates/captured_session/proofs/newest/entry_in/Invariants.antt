use Rattle.std.specs.Prelude.{◌≡◌, take}
use Rattle.captured_session.specs.Lists.{entry_said, newest}
use Rattle.captured_session.proofs.newest.entry_in.Given as goal

-- what the facts before say
abbrev pub invariant-loop-fact : goal.invariant-loop-fact
invariant-loop-fact l = l.said ≡ newest (entry_said l.list l.odt l.entry) (take l.fact-index l.facts)
