use Rattle.std.proofs.Common.{◌++◌}
use Rattle.std.proofs.lemmas.Result.{IfErr-weaker, IfOk-weaker}
use Rattle.frame_writer.specs.contracts.sink_out.SinkOutOut.TheImpl.{ghosts as out}
use Rattle.transmitter.specs.Fills.{all_taken}
use Rattle.transmitter.specs.Written.{transmission}
use Rattle.daq_engine.proofs.AskingLemmas.{leads-taken}
use Rattle.daq_engine.proofs.BesideLemmas.{pumped_on}
use Rattle.daq_engine.proofs.FillingLemmas.{filled_on}
use Rattle.daq_engine.proofs.filling.Engine+SinkOut+T.pump_all.Goals as goal

-- what was taken, and that nothing else changed
pub returns-clause-ok : goal.returns-clause-ok
returns-clause-ok g c =
    let xs = c.args.self.now.samplers.items in
    let ys = c.fill_step.new.samplers.items in
    let t = transmission out g.T.TakeEnd c.args.self.now.transmitter in
    let u = transmission out g.T.TakeEnd c.fill_step.new.transmitter in
    let e = c.fill_step.ensures in
    IfOk-weaker c.fill_step.result _ _ (λ done filled. record {
      fills = record {
        step = filled.step;
        samplers = e.samplers;
        stands = leads-taken g.T.Send.SendEnd g.T.End.RingEnd xs ys t e.samplers.those u (all_taken filled.step.fills.pumps ++ filled.step.fills.last) (filled_on _ _ _ _ _ _ t u done.0 filled.step) e.samplers.stand;
        roomy = e.roomy;
      };
      front = filled.front;
    }) e.ok

-- a refused call took nothing
pub returns-clause-err : goal.returns-clause-err
returns-clause-err g c =
    let xs = c.args.self.now.samplers.items in
    let ys = c.fill_step.new.samplers.items in
    let t = transmission out g.T.TakeEnd c.args.self.now.transmitter in
    let u = transmission out g.T.TakeEnd c.fill_step.new.transmitter in
    let e = c.fill_step.ensures in
    IfErr-weaker c.fill_step.result _ _ (λ fault refused. record {
      pump = record {
        step = refused.step;
        samplers = e.samplers;
        stands = leads-taken g.T.Send.SendEnd g.T.End.RingEnd xs ys t e.samplers.those u refused.step.pumps.taken (pumped_on _ _ t u _ refused.step) e.samplers.stand;
        roomy = e.roomy;
      };
      never_fails = refused.never_fails;
      next_stays = refused.next_stays;
      buffer_stays = refused.buffer_stays;
    }) e.err
