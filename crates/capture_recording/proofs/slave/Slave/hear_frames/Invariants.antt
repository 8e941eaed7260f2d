use Rattle.std.specs.Prelude.{◌≡◌, ◌+◌, ◌≤◌, ◌++◌, ℕ, All, List, length}
use Rattle.frame_writer.specs.Frame.{IsFrame}
use Rattle.frame_writer.specs.Split.{joined_frames}
use Rattle.capture_recording.specs.Heard.{HearsFrames}
use Rattle.capture_recording.specs.Slaves.{IsOneWith}
use Rattle.capture_recording.proofs.slave.Slave.hear_frames.Given as goal

-- the frames before were heard, and each has a byte
abbrev pub invariant-frames : goal.invariant-frames
invariant-frames g l =
    (fs : List (ℕ × List ℕ)) × All IsFrame fs × (l.bytes ≡ joined_frames fs ++ l.rest)
    × (l.counter + length l.rest ≤ length l.bytes)
    × HearsFrames l.is_of_master fs l.fn.self.samples l.self.samples
    (g.S.SampleSink.told l.fn.self.sink) (g.S.SampleSink.told l.self.sink)
    × IsOneWith l.fn.self l.self
