use Rattle.std.proofs.Common.{[]}
use Rattle.sampler.specs.History.{Start, Stop, Trigger}
use Rattle.daq_engine.specs.Engines.{engine_state}
use Rattle.daq_engine.specs.Events.{decisions_at, with_event, with_taken}
use Rattle.engine_tests.proofs.whole_run.run_once.Goals as goal

-- each call leads the standing on, and the close has it
pub returns-in-Ok-close : goal.returns-in-Ok-close
returns-in-Ok-close g c = λ st stands.
    let shows = engine_state g.O.Out g.T.TakeEnd in
    let ds = decisions_at st.past 0 c.in-Ok.field-0 c.args.image.now c.args.stamp in
    let qs = c.pump.ensures.pumps.step.pumps.taken in
    let triggers = c.in-Ok.ensures.asks.ok st stands in
    let pumped = with_taken qs (with_event 0 (Trigger c.args.image.now c.args.stamp) ds st) in
    let taken = c.pump.ensures.pumps.stands (with_event 0 (Trigger c.args.image.now c.args.stamp) ds st) triggers.stands in
    let stopped = with_event 0 (Stop 0) [] pumped in
    let started = with_event 0 (Start 0) [] stopped in
    let stands_started = c.in-Ok-start.ensures.asks.ok stopped (c.in-Ok-stop.ensures.asks.ok pumped taken) in
    record {
      taken = c.in-Ok.field-0;
      triggered = shows c.trigger.new.self;
      triggers = triggers;
      others_stay = c.in-Ok.ensures.asks.others_stay;
      answer = c.pump.result;
      pumped = shows c.pump.new.self;
      pumps = c.pump.ensures.pumps;
      stopped = shows c.stop.new.self;
      stops = record { leads = c.in-Ok-stop.ensures.asks.ok; others_stay = c.in-Ok-stop.ensures.asks.others_stay };
      started = shows c.start.new.self;
      starts = record { leads = c.in-Ok-start.ensures.asks.ok; others_stay = c.in-Ok-start.ensures.asks.others_stay };
      closes = c.in-Ok-close.ensures.closed started stands_started;
    }
