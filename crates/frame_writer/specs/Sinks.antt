-- A frame writer whose frames go to memory.
use Rattle.frame_writer.specs.Writing.{WriterState, state_of}
use Rattle.frame_writer.specs.contracts.sink_out.SinkOutOut.TheImpl.{ghosts}
use Rattle.frame_writer.specs.declared.sink_out.SinkOut.{SinkOut}
use Rattle.frame_writer.specs.declared.writer.FrameWriter.{FrameWriter}

-- what it shows
abbrev pub sink_writer : FrameWriter SinkOut → WriterState
sink_writer w = state_of ghosts w
