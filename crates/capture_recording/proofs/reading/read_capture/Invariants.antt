use Rattle.std.proofs.Common.{◌≡◌, ℕ, ◌++◌, [], List, reverse}
use Rattle.std.specs.Io.KnownBytes.{Consumes}
use Rattle.capture.specs.Packets.{PacketOf}
use Rattle.capture.specs.Standing.{StandsAfter}
use Rattle.capture_recording.specs.Slaves.{AllTaken}
use Rattle.capture_recording.proofs.reading.read_capture.Given as goal

-- of the bytes that were read those in front were taken, and the others are held
abbrev pub invariant-pieces : goal.invariant-pieces
invariant-pieces g l =
    ((first : g.row.K.Denot) → AllTaken g.K.Sink.SampleSink.told g.K.Sinks.reads first [] l.fn.slaves
    → (before : List ℕ) × (packets : List PacketOf)
    × Consumes (g.I.Read.remaining l.fn.input) (g.I.Read.remaining l.input) (before ++ l.held.items)
    × StandsAfter l.reader before packets
    × AllTaken g.K.Sink.SampleSink.told g.K.Sinks.reads first (reverse packets) l.slaves)
    × (l.slaves.form ≡ l.fn.slaves.form) × (l.slaves.port ≡ l.fn.slaves.port)
