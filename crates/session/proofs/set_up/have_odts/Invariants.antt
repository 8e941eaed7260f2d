use Rattle.std.proofs.Common.{◌≡◌, take}
use Rattle.session.proofs.set_up.have_odts.Given as goal

-- the ODTs so far are the same
abbrev pub invariant-loop-odt : goal.invariant-loop-odt
invariant-loop-odt l = take l.odt l.odts ≡ take l.odt l.conf.odts
