use Rattle.std.proofs.Common.{ℕ, List, subst}
use Rattle.frame_writer.specs.Shown.{shown}
use Rattle.frame_writer.specs.Writing.{WriterState}
use Rattle.sampler.specs.Past.{Past}
use Rattle.daq_engine.specs.Closings.{ClosesEngine}
use Rattle.daq_engine.specs.Engines.{Standing, engine_state}
use Rattle.daq_run.specs.StepRuns.{Done, taken_in}
use Rattle.daq_run.proofs.StepLemmas.{stay_still}
use Rattle.daq_run.proofs.RunLemmas.{as_many, comes_to, stops_at, stops_behind}
use Rattle.daq_run.proofs.serial.run_over.Goals as goal

-- what it stands after
abbrev standing_of : WriterState → (ℕ → Past) → List Done → Standing
standing_of start past done = record { start = start; past = past; taken = taken_in done }

-- the engine has a sampler for each event channel of the run
pub do_watched-refused-requires : goal.do_watched-refused-requires
do_watched-refused-requires g c =
    let a = engine_state g.O.Out _ c.in_ok-engine.engine in
    record { channels = as_many g.K.Send.SendEnd g.K.Send.End.RingEnd c.args.run.now c.requires.cost (shown g.O.Out c.args.out) a a c.in_ok-engine.ensures.ok (stay_still g.K.Send.SendEnd g.K.Send.End.RingEnd a.samplers) }

-- what `close` says of the engine after its steps
pub returns-in-Ok-clause-ok : goal.returns-in-Ok-clause-ok
returns-in-Ok-clause-ok g c =
    let a = engine_state g.O.Out _ c.in_ok-engine.engine in
    let b = engine_state g.O.Out _ c.do_watched-refused.new.engine in
    let opened = c.in_ok-engine.ensures.ok in
    let done = c.do_watched-refused.ensures.does opened.writer opened.openings opened.stands in
    comes_to g.K.Send.SendEnd g.K.Send.End.RingEnd c.args.run.now c.requires.cost (shown g.O.Out c.args.out) a b opened c.do_watched-refused.ensures.samplers_stay
    c.do_watched-refused.result done c.in-Ok.report (shown g.O.Out c.in-Ok.out)
    (subst (λ d. ClosesEngine g.K.Send.SendEnd g.K.Send.End.RingEnd d b (standing_of opened.writer done.past done.done) c.in-Ok.report (shown g.O.Out c.in-Ok.out)) c.drain.ensures.value
    (c.in-Ok.ensures.closed (standing_of opened.writer done.past done.done) done.stands))

-- what comes back is the engine after its steps, or its frame writer
pub returns-in-Err-clause-fault : goal.returns-in-Err-clause-fault
returns-in-Err-clause-fault g c =
    let a = engine_state g.O.Out _ c.in_ok-engine.engine in
    let b = engine_state g.O.Out _ c.do_watched-refused.new.engine in
    let opened = c.in_ok-engine.ensures.ok in
    let done = c.do_watched-refused.ensures.does opened.writer opened.openings opened.stands in
    let after = shown g.O.Out c.given_back.result.1 in
    stops_at c.args.run.now (shown g.O.Out c.args.out) after c.given_back.result.0 c.given_back.ensures.fault
    (stops_behind g.K.Send.SendEnd g.K.Send.End.RingEnd c.args.run.now c.requires.cost (shown g.O.Out c.args.out) a b opened c.do_watched-refused.ensures.samplers_stay
    c.do_watched-refused.result done after (c.given_back.ensures.written b c.in-Err.ensures.back))
