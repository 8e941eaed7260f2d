use Rattle.std.proofs.Common.{◌≡◌, ◌≤◌, length, take}
use Rattle.capture_recording.specs.Reads.{TakesUnits}
use Rattle.capture_recording.proofs.reading.take_units.Given as goal

-- the bytes before were taken, at least one a round
abbrev pub invariant-units : goal.invariant-units
invariant-units g l =
    (l.at ≤ length l.held)
    × TakesUnits g.K.Sink.SampleSink.told g.K.Sinks.reads l.fn.reader l.reader l.fn.slaves l.slaves (take l.at l.held)
    × (l.slaves.form ≡ l.fn.slaves.form) × (l.slaves.port ≡ l.fn.slaves.port) × (l.counter ≤ l.at)
