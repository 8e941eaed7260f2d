use Rattle.std.proofs.Common.{◌≡◌, map, take}
use Rattle.c_slave.specs.Profiles.{told_in, told_of}
use Rattle.c_slave.proofs.profiles.events_of.Given as goal

-- the event channels so far are those that are asked for
abbrev pub invariant-loop-event : goal.invariant-loop-event
invariant-loop-event l = map told_of l.made.items ≡ map told_in (take l.event-index l.events)
