use Rattle.std.proofs.Common.{take}
use Rattle.frame_writer.specs.Shown.{shown}
use Rattle.frame_writer.specs.Writing.{AfterText, fresh_writer, state_of}
use Rattle.daq_run.specs.Fixed.{fixed_packets}
use Rattle.daq_run.proofs.fixed.fixed_run.Given as goal

-- the packets of the images so far were sent
abbrev pub invariant-loop-image : goal.invariant-loop-image
invariant-loop-image g l =
    AfterText (fresh_writer (shown g.O.Out l.fn.out)) (state_of g.O.Out l.writer) (fixed_packets (take l.image-index l.images))
