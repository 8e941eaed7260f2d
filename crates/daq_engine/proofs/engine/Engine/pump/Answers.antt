use Rattle.transmitter.specs.Written.{transmission}
use Rattle.daq_engine.proofs.AskingLemmas.{leads-taken}
use Rattle.daq_engine.proofs.BesideLemmas.{pumped_on}
use Rattle.daq_engine.proofs.engine.Engine.pump.Goals as goal

-- what was taken, and that nothing else changed
pub returns-clause-pumps : goal.returns-clause-pumps
returns-clause-pumps g c =
    let xs = c.args.self.now.samplers.items in
    let ys = c.pump_step.new.samplers.items in
    let t = transmission g.O.Out g.T.TakeEnd c.args.self.now.transmitter in
    let u = transmission g.O.Out g.T.TakeEnd c.pump_step.new.transmitter in
    let e = c.pump_step.ensures in
    record {
      step = e.pumps;
      samplers = e.samplers;
      stands = leads-taken g.T.Send.SendEnd g.T.End.RingEnd xs ys t e.samplers.those u e.pumps.pumps.taken (pumped_on _ _ t u _ e.pumps) e.samplers.stand;
      roomy = e.roomy;
    }
