-- What a writer over a stream shows.
use Rattle.std.specs.Prelude.{ℕ, List, []}
use Rattle.frame_writer.specs.declared.sink_out.SinkOut.{SinkOut}
use Rattle.frame_writer.specs.declared.std_out.StdOut.{StdOut}
use Rattle.frame_writer.specs.Shown.{OutState}

-- what it writes to
abbrev pub inner_of : {W : Type 0} → StdOut W → W
inner_of a = a.inner

-- the bytes that it took, and how often it failed and stalled
abbrev pub told : {W : Type 0} → StdOut W → OutState
told a = record { contents = a.log.bytes; failures = a.failures; stalls = a.stalls }

-- it took nothing yet, and nothing went wrong
abbrev pub untouched : OutState
untouched = record { contents = []; failures = 0; stalls = 0 }

-- the bytes that a writer took that keeps none
abbrev pub sunk : SinkOut → List ℕ
sunk a = a.log.bytes
