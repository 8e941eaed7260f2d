use Rattle.std.proofs.Common.{length, ap, ◌∙◌}
use Rattle.std.proofs.lemmas.Result.{IfErr-weaker, IfOk-weaker}
use Rattle.frame_writer.specs.contracts.sink_out.SinkOutOut.TheImpl.{ghosts as out}
use Rattle.transmitter.specs.Merge.{of_ring}
use Rattle.transmitter.specs.Written.{transmission}
use Rattle.transmitter.proofs.DrainLemmas.{looked-rings}
use Rattle.daq_engine.specs.Samplers.{sent_of_each}
use Rattle.daq_engine.proofs.BesideLemmas.{all_looked-more, pump_between}
use Rattle.daq_engine.proofs.FillingLemmas.{fill_between, filled-rings, front_between}
use Rattle.daq_engine.proofs.filling.fill_step.Goals as goal

-- both looks leave the samplers
pub returns-clause-samplers : goal.returns-clause-samplers
returns-clause-samplers g c = all_looked-more c.look.ensures.samplers c.look-2.ensures.samplers

-- and the rings
pub returns-clause-rings_stay : goal.returns-clause-rings_stay
returns-clause-rings_stay g c =
    let e = c.pump_all-answer.ensures in
    filled-rings _ _
    (transmission out g.T.TakeEnd c.look.new.transmitter)
    (transmission out g.T.TakeEnd c.pump_all-answer.new.self)
    (transmission out g.T.TakeEnd c.look-2.new.transmitter)
    c.pump_all-answer.result e.ok e.err c.look-2.ensures.looked ∙ looked-rings (transmission out g.T.TakeEnd c.args.transmitter.now) (transmission out g.T.TakeEnd c.look.new.transmitter) c.look.ensures.looked

-- the second look tells what the pumps took, as the first told what was left
pub returns-clause-ok : goal.returns-clause-ok
returns-clause-ok g c =
    let xs = c.args.samplers.now.items in
    let first = c.look.ensures in
    let second = c.look-2.ensures in
    IfOk-weaker c.pump_all-answer.result _ _ (λ done filled. record {
      step =
          fill_between (sent_of_each g.T.Send.SendEnd xs) (length xs) _ _ _ _ _ done.1
          (transmission out g.T.TakeEnd c.args.transmitter.now)
          (transmission out g.T.TakeEnd c.look.new.transmitter)
          (transmission out g.T.TakeEnd c.pump_all-answer.new.self)
          (transmission out g.T.TakeEnd c.look-2.new.transmitter)
          done.0 (record { same = first.looked; rest = first.left }) first.next_stays first.as_many filled.fills
          (record { same = second.looked; rest = λ e. second.left e ∙ ap (λ ys. of_ring ys e) first.samplers.sent }) second.next_stays;
      front =
          front_between (transmission out g.T.TakeEnd c.args.transmitter.now) (transmission out g.T.TakeEnd c.look.new.transmitter)
          (transmission out g.T.TakeEnd c.pump_all-answer.new.self) (transmission out g.T.TakeEnd c.look-2.new.transmitter)
          _ _ _ first.looked second.looked filled.front;
    }) c.pump_all-answer.ensures.ok

-- a refused call is a refused pump between the looks
pub returns-clause-err : goal.returns-clause-err
returns-clause-err g c =
    let xs = c.args.samplers.now.items in
    let first = c.look.ensures in
    let second = c.look-2.ensures in
    IfErr-weaker c.pump_all-answer.result _ _ (λ fault refused. record {
      step =
          pump_between (sent_of_each g.T.Send.SendEnd xs) (length xs)
          (transmission out g.T.TakeEnd c.args.transmitter.now)
          (transmission out g.T.TakeEnd c.look.new.transmitter)
          (transmission out g.T.TakeEnd c.pump_all-answer.new.self)
          (transmission out g.T.TakeEnd c.look-2.new.transmitter)
          _ (record { same = first.looked; rest = first.left }) first.as_many refused.pump
          (record { same = second.looked; rest = λ e. second.left e ∙ ap (λ ys. of_ring ys e) first.samplers.sent });
      never_fails = refused.never_fails;
      next_stays = second.next_stays ∙ (refused.next_stays ∙ first.next_stays);
      buffer_stays = refused.buffer_stays;
    }) c.pump_all-answer.ensures.err
