use Rattle.std.proofs.Common.{length, ap, ◌∙◌}
use Rattle.transmitter.specs.Merge.{of_ring}
use Rattle.transmitter.specs.Written.{transmission}
use Rattle.daq_engine.specs.Samplers.{sent_of_each}
use Rattle.daq_engine.proofs.BesideLemmas.{all_looked-more, pump_between}
use Rattle.daq_engine.proofs.beside.pump_step.Goals as goal

-- both looks leave the samplers
pub returns-clause-samplers : goal.returns-clause-samplers
returns-clause-samplers g c = all_looked-more c.look.ensures.samplers c.look-2.ensures.samplers

-- the second look tells what the pump took, as the first told what was left
pub returns-clause-pumps : goal.returns-clause-pumps
returns-clause-pumps g c =
    let xs = c.args.samplers.now.items in
    let first = c.look.ensures in
    let second = c.look-2.ensures in
    pump_between (sent_of_each g.T.Send.SendEnd xs) (length xs)
    (transmission g.O.Out g.T.TakeEnd c.args.transmitter.now)
    (transmission g.O.Out g.T.TakeEnd c.look.new.transmitter)
    (transmission g.O.Out g.T.TakeEnd c.pump-answer.new.self)
    (transmission g.O.Out g.T.TakeEnd c.look-2.new.transmitter)
    c.pump-answer.result
    (record { same = first.looked; rest = first.left })
    first.as_many
    c.pump-answer.ensures.pumps
    (record { same = second.looked; rest = λ e. second.left e ∙ ap (λ ys. of_ring ys e) first.samplers.sent })
