use Rattle.std.proofs.Common.{◌≡◌}
use Rattle.transmitter.specs.Written.{next_of, transmission}
use Rattle.daq_engine.proofs.BesideLemmas.{LookedBelow}
use Rattle.daq_engine.proofs.beside.look.Given as goal

-- the rings so far were looked at
abbrev pub invariant-loop-c : goal.invariant-loop-c
invariant-loop-c g l =
    record {
      below : LookedBelow g.T.Send.SendEnd g.T.Send.End.RingEnd l.c l.fn.samplers.items l.samplers.items
          (transmission g.O.Out g.T.TakeEnd l.fn.transmitter) (transmission g.O.Out g.T.TakeEnd l.transmitter);
      next : next_of l.transmitter ≡ next_of l.fn.transmitter;
    }
