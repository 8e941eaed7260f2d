use Rattle.std.proofs.Common.{◌≡◌, take}
use Rattle.session.proofs.set_up.SetUp.of.Given as goal

-- the ODTs so far are held
abbrev pub invariant-loop-odt : goal.invariant-loop-odt
invariant-loop-odt l = l.odts.items ≡ take l.odt l.conf.odts
