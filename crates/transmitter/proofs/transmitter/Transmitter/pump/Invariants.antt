use Rattle.std.proofs.Common.{◌≡◌, vec_len}
use Rattle.transmitter.specs.Inner.Fits.{AreFew, HasTurns}
use Rattle.transmitter.specs.Written.{transmission}
use Rattle.transmitter.proofs.PumpLemmas.{nothing}
use Rattle.transmitter.proofs.transmitter.Transmitter.pump.Given as goal

-- the pump has had its turns at the rings so far
abbrev pub invariant-loop-c : goal.invariant-loop-c
invariant-loop-c g l = record {
  turns : HasTurns 0 l.c (transmission g.O.Out g.T.TakeEnd l.fn.self) (transmission g.O.Out g.T.TakeEnd l.self) nothing l.pumped;
  few : AreFew l.c nothing l.pumped 0 0;
  as_many : vec_len l.self.ends ≡ vec_len l.fn.self.ends;
}
