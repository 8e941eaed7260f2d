use Rattle.transmitter.specs.Written.{transmission}
use Rattle.daq_run.specs.Inner.Workers.{KeepsTaking}
use Rattle.daq_run.proofs.meanwhile.pump_until.Given as goal

-- some more was taken of the same rings
abbrev pub invariant-loop : goal.invariant-loop
invariant-loop g l = KeepsTaking (transmission g.O.Out g.T.TakeEnd l.fn.transmitter) (transmission g.O.Out g.T.TakeEnd l.transmitter)
