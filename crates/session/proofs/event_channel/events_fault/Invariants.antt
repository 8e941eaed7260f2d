use Rattle.std.proofs.Common.{◌≡◌, drop}
use Rattle.session.specs.Profiles.{events_fault}
use Rattle.session.proofs.event_channel.events_fault.Given as goal

-- the event channels so far are within their limits
abbrev pub invariant-loop-event : goal.invariant-loop-event
invariant-loop-event l = events_fault l.events ≡ events_fault (drop l.event-index l.events)
