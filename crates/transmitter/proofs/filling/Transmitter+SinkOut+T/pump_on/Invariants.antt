use Rattle.std.proofs.Common.{◌≡◌, ◌+◌, ◌*◌, ◌≤◌, vec_len}
use Rattle.frame_writer.specs.Writing.{state_of}
use Rattle.frame_writer.specs.contracts.sink_out.SinkOutOut.TheImpl.{ghosts as out}
use Rattle.transmitter.specs.Inner.Fits.{AreFew, HasTurns, LaysOn}
use Rattle.transmitter.specs.Written.{transmission}
use Rattle.transmitter.proofs.filling.Transmitter+SinkOut+T.pump_on.Given as goal

-- the pump has had its turns at the rings so far, and their frames stand in the buffer
abbrev pub invariant-loop-c : goal.invariant-loop-c
invariant-loop-c g l = record {
  turns : HasTurns l.fn.from l.c (transmission out g.T.TakeEnd l.fn.self) (transmission out g.T.TakeEnd l.self) l.fn.pumped l.pumped;
  lays : LaysOn (state_of out l.fn.self.writer).out (state_of out l.self.writer).out l.fn.buffer l.buffer l.fn.end l.end;
  long : 4 * l.pumped.frames ≤ l.end;
  few : AreFew l.c l.fn.pumped l.pumped l.fn.end l.end;
  few_items : l.self.taken ≤ l.fn.self.taken + l.c;
  as_many : vec_len l.self.ends ≡ vec_len l.fn.self.ends;
}
