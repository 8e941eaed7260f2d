use Rattle.std.proofs.Common.{inr, map, sym, ap, subst, ◌∙◌}
use Rattle.std.proofs.lemmas.List.{length-map}
use Rattle.frame_writer.specs.Shown.{shown}
use Rattle.frame_writer.specs.Writing.{out_of}
use Rattle.sampler.specs.State.{joined}
use Rattle.transmitter.specs.Written.{transmission, writer_of}
use Rattle.daq_engine.specs.Closed.{ClosesWith}
use Rattle.daq_engine.specs.Engines.{engine_state}
use Rattle.daq_run.specs.Steps.{run_step}
use Rattle.daq_run.specs.Inner.Workers.{HaveWorked, KeepsTaking}
use Rattle.daq_run.proofs.ThreadLemmas.{are_ends, late_at, of_rings, stops_among, threads_come_to}
use Rattle.daq_run.proofs.threaded.threads_over.Goals as goal

-- the threads came to a fault
pub returns-in-Err-clause-fault : goal.returns-in-Err-clause-fault
returns-in-Err-clause-fault g c =
    let run = c.args.run.now in
    let before = shown g.O.Out c.args.out in
    let after = shown g.O.Out c.into_out.result in
    let a = engine_state g.O.Out g.K.Take.TakeEnd c.in_ok-engine.engine in
    let t = transmission g.O.Out g.K.Take.TakeEnd c.work_and_pump.new.transmitter in
    let takes = subst (λ u. KeepsTaking u t) c.into_parts-samplers.ensures.transmitter c.in-Err.ensures.takes in
    late_at run before after c.in-Err.fault c.in-Err.ensures.late
    (stops_among g.K.Send.SendEnd g.K.Send.End.RingEnd run c.requires.cost before a c.in_ok-engine.ensures.ok t takes after (ap (shown g.O.Out) (c.into_out.ensures ∙ ap out_of c.into_writer.ensures)))

-- the ends are those of the transmitter's rings
pub drain_and_close-requires : goal.drain_and_close-requires
drain_and_close-requires g c =
    let run = c.args.run.now in
    let a = engine_state g.O.Out g.K.Take.TakeEnd c.in_ok-engine.engine in
    let t = transmission g.O.Out g.K.Take.TakeEnd c.work_and_pump.new.transmitter in
    let takes = subst (λ u. KeepsTaking u t) c.into_parts-samplers.ensures.transmitter c.in-Ok.ensures.takes in
    let es = c.in-Ok.worked.0.items in
    let worked = subst (λ ss. HaveWorked g.K.Send.SendEnd g.K.Send.End.RingEnd ss (map run_step run.steps) es c.in-Ok.worked.1) c.into_parts-samplers.ensures.samplers c.in-Ok.ensures.worked in
    record { one_ring = λ fit. of_rings g.K.Send.SendEnd g.K.Send.End.RingEnd run c.requires.cost (shown g.O.Out c.args.out) a c.in_ok-engine.ensures.ok t takes es c.in-Ok.worked.1 worked c.in_ok-engine.engine.beside }

-- and in rising channel
pub unreachable-requires : goal.unreachable-requires
unreachable-requires g c =
    let run = c.args.run.now in
    let a = engine_state g.O.Out g.K.Take.TakeEnd c.in_ok-engine.engine in
    let t = transmission g.O.Out g.K.Take.TakeEnd c.work_and_pump.new.transmitter in
    let takes = subst (λ u. KeepsTaking u t) c.into_parts-samplers.ensures.transmitter c.in-Ok.ensures.takes in
    let es = c.in-Ok.worked.0.items in
    let worked = subst (λ ss. HaveWorked g.K.Send.SendEnd g.K.Send.End.RingEnd ss (map run_step run.steps) es c.in-Ok.worked.1) c.into_parts-samplers.ensures.samplers c.in-Ok.ensures.worked in
    c.in-Err-WrongEnds-default-default.ensures.wrong_ends.0 c.in-Err-WrongEnds-default-default.field-0-0-is
    (are_ends g.K.Send.SendEnd g.K.Send.End.RingEnd run c.requires.cost (shown g.O.Out c.args.out) a c.in_ok-engine.ensures.ok t takes es c.in-Ok.worked.1 worked c.in_ok-engine.engine.beside)

-- what the closing says, of what the threads came to
pub returns-in-Ok-drain_and_close-clause-ok : goal.returns-in-Ok-drain_and_close-clause-ok
returns-in-Ok-drain_and_close-clause-ok g c =
    let run = c.args.run.now in
    let a = engine_state g.O.Out g.K.Take.TakeEnd c.in_ok-engine.engine in
    let w = c.work_and_pump.new.transmitter in
    let t = transmission g.O.Out g.K.Take.TakeEnd w in
    let takes = subst (λ u. KeepsTaking u t) c.into_parts-samplers.ensures.transmitter c.in-Ok.ensures.takes in
    let es = c.in-Ok.worked.0.items in
    let worked = subst (λ ss. HaveWorked g.K.Send.SendEnd g.K.Send.End.RingEnd ss (map run_step run.steps) es c.in-Ok.worked.1) c.into_parts-samplers.ensures.samplers c.in-Ok.ensures.worked in
    let report = c.in-Ok-drain_and_close.report in
    let after = shown g.O.Out c.in-Ok-drain_and_close.out in
    let closes = subst (λ d. ClosesWith d t (map (joined g.K.Send.End.RingEnd) es) report after) c.drain.ensures.value c.in-Ok-drain_and_close.ensures.closed in
    threads_come_to g.K.Send.SendEnd g.K.Send.End.RingEnd run c.requires.cost (shown g.O.Out c.args.out) a c.in_ok-engine.ensures.ok t takes es c.in-Ok.worked.1 worked report after closes
    (length-map w.ends.items g.K.Take.TakeEnd.received ∙ sym (length-map w.ends.items g.K.Take.TakeEnd.ring)) c.in_ok-engine.engine.beside

-- no memory for the closing
pub returns-in-Err-Memory-default-default-clause-fault : goal.returns-in-Err-Memory-default-default-clause-fault
returns-in-Err-Memory-default-default-clause-fault g c =
    let run = c.args.run.now in
    let a = engine_state g.O.Out g.K.Take.TakeEnd c.in_ok-engine.engine in
    let w = c.work_and_pump.new.transmitter in
    let t = transmission g.O.Out g.K.Take.TakeEnd w in
    let takes = subst (λ u. KeepsTaking u t) c.into_parts-samplers.ensures.transmitter c.in-Ok.ensures.takes in
    let after = shown g.O.Out c.into_out-in-Err-Memory-default-default.result in
    let same = c.into_out-in-Err-Memory-default-default.ensures ∙ ap out_of (c.into_writer-in-Err-Memory-default-default.ensures ∙ ap writer_of c.in-Err-Memory-default-default.ensures.back.0) in
    inr (inr (stops_among g.K.Send.SendEnd g.K.Send.End.RingEnd run c.requires.cost (shown g.O.Out c.args.out) a c.in_ok-engine.ensures.ok t takes after (ap (shown g.O.Out) same)))
