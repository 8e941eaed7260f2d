use Rattle.std.proofs.Common.{◌≡◌, ◌+◌, ◌-◌, ◌*◌, ◌≤◌, length, vec_len}
use Rattle.xcp_base.specs.declared.limits.TheConstants.{MAX_TAKEN}
use Rattle.frame_writer.specs.Writing.{state_of}
use Rattle.frame_writer.specs.contracts.sink_out.SinkOutOut.TheImpl.{ghosts as out}
use Rattle.transmitter.specs.Inner.Fits.{LaysOn}
use Rattle.transmitter.specs.Written.{transmission}
use Rattle.transmitter.proofs.FillLemmas.{Filled}
use Rattle.transmitter.proofs.filling.Transmitter+SinkOut+T.pump_all.Given as goal

-- whole pumps were made, and their frames stand in the buffer
abbrev pub invariant-loop-self : goal.invariant-loop-self
invariant-loop-self g l = record {
  filled : Filled (length (transmission out g.T.TakeEnd l.fn.self).rings) l.fn.self.next (transmission out g.T.TakeEnd l.fn.self) (transmission out g.T.TakeEnd l.self) l.from l.pumped;
  lays : LaysOn (state_of out l.fn.self.writer).out (state_of out l.self.writer).out l.fn.buffer l.buffer 0 l.end;
  long : 4 * l.pumped.frames ≤ l.end;
  count : l.pumped.taken ≤ l.self.taken;
  as_many : vec_len l.self.ends ≡ vec_len l.fn.self.ends;
}

-- each pump takes something, but perhaps the first, which goes on at a ring above 0
abbrev pub decreases-loop-self : goal.decreases-loop-self
decreases-loop-self g l = (MAX_TAKEN - l.self.taken) + l.from
