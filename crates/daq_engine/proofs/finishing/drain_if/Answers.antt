use Rattle.std.proofs.Common.{[], sym, subst, append-nil}
use Rattle.transmitter.specs.Written.{HasTaken, transmission}
use Rattle.daq_engine.proofs.finishing.drain_if.Goals as goal

-- without a drain nothing more was taken
pub returns-else-drain-clause-more : goal.returns-else-drain-clause-more
returns-else-drain-clause-more g c = λ start ps taken. ([], subst (HasTaken start (transmission g.O.Out g.T.TakeEnd c.args.transmitter.now)) (sym (append-nil ps)) taken)
