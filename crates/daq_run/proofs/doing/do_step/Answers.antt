use Rattle.std.proofs.Common.{◌++◌, ◌∷◌, [], ◌+◌, length, refl, sym, ap, subst}
use Rattle.std.specs.Prelude.{Err, None, Some}
use Rattle.sampler.specs.History.{Start, Stop, Trigger}
use Rattle.run_file.specs.Lent.{step_data}
use Rattle.run_file.specs.declared.step.Step.{Step}
use Rattle.daq_engine.specs.Asking.{AsksStart, AsksStop, AsksTrigger}
use Rattle.daq_engine.specs.Engines.{engine_state}
use Rattle.daq_run.specs.Cames.{IsCame}
use Rattle.daq_run.specs.StepRuns.{AnswersStepAt, HasDone, IsStepOf}
use Rattle.daq_run.specs.Steps.{run_step}
use Rattle.daq_run.specs.declared.came.Came.TheVariants.{Pumped, Refused, Stuck, Switched, Taken}
use Rattle.daq_run.specs.declared.cause.Cause.TheVariants.{Start as OfStart, Stop as OfStop, Trigger as OfTrigger}
use Rattle.daq_run.proofs.AskLemmas.{start_done, start_refused, stop_done, stop_refused, trigger_refused, trigger_taken}
use Rattle.daq_run.proofs.StepLemmas.{ask_counted, pump_more}
use Rattle.daq_run.proofs.doing.do_step.Goals as goal

-- a trigger was taken, or refused and counted
pub returns-in-Ok : goal.returns-in-Ok
returns-in-Ok g c =
    let send = g.T.Send.SendEnd in
    let ring = g.T.End.RingEnd in
    let a = engine_state g.O.Out g.T.TakeEnd c.args.engine.now in
    let b = engine_state g.O.Out g.T.TakeEnd c.trigger.new.self in
    let is = ap (λ (s : Step). run_step (step_data s)) c.in-Trigger.is in
    let within = subst (λ s. IsStepOf (length a.samplers) s) is c.requires.of_channel in
    let asks = c.in-Ok.ensures.asks in
    let told = trigger_taken send ring a b c.in-Trigger.channel within c.in-Trigger.image.now c.in-Trigger.stamp c.in-Ok.taken asks in
    record {
      does = ask_counted send ring a b c.in-Trigger.channel asks.others_stay (Trigger c.in-Trigger.image.now c.in-Trigger.stamp) None (run_step (step_data c.args.step)) 0 told within is refl;
      answers = subst (λ s. AnswersStepAt send ring a b s None) (sym is) (told, asks.others_stay);
      came = subst (λ s. IsCame send ring a b s (Taken c.in-Ok.taken)) (sym is) asks;
      samplers_stay = asks.others_stay.samplers.those;
    }

pub returns-in-Err-Refused : goal.returns-in-Err-Refused
returns-in-Err-Refused g c =
    let send = g.T.Send.SendEnd in
    let ring = g.T.End.RingEnd in
    let a = engine_state g.O.Out g.T.TakeEnd c.args.engine.now in
    let b = engine_state g.O.Out g.T.TakeEnd c.trigger.new.self in
    let is = ap (λ (s : Step). run_step (step_data s)) c.in-Trigger.is in
    let within = subst (λ s. IsStepOf (length a.samplers) s) is c.requires.of_channel in
    let asks = c.in-Err-Refused.ensures.asks in
    let told = trigger_refused send ring a b c.in-Trigger.channel within c.in-Trigger.image.now c.in-Trigger.stamp c.in-Err-Refused.field-0 c.in-Err-Refused.fault c.in-Err-Refused.field-0-is asks in
    record {
      does = ask_counted send ring a b c.in-Trigger.channel asks.others_stay (Trigger c.in-Trigger.image.now c.in-Trigger.stamp) (Some (OfTrigger c.in-Err-Refused.fault)) (run_step (step_data c.args.step)) 1 told within is refl;
      answers = subst (λ s. AnswersStepAt send ring a b s (Some (OfTrigger c.in-Err-Refused.fault))) (sym is) (told, asks.others_stay);
      came = subst (λ s. IsCame send ring a b s (Refused (OfTrigger c.in-Err-Refused.fault))) (sym is) (subst (λ f. AsksTrigger send ring a b c.in-Trigger.channel c.in-Trigger.image.now c.in-Trigger.stamp (Err f)) c.in-Err-Refused.field-0-is asks);
      samplers_stay = asks.others_stay.samplers.those;
    }

-- so with a start
pub returns-in-Ok-start : goal.returns-in-Ok-start
returns-in-Ok-start g c =
    let send = g.T.Send.SendEnd in
    let ring = g.T.End.RingEnd in
    let a = engine_state g.O.Out g.T.TakeEnd c.args.engine.now in
    let b = engine_state g.O.Out g.T.TakeEnd c.start.new.self in
    let is = ap (λ (s : Step). run_step (step_data s)) c.in-Start.is in
    let within = subst (λ s. IsStepOf (length a.samplers) s) is c.requires.of_channel in
    let asks = c.in-Ok-start.ensures.asks in
    let told = start_done send ring a b c.in-Start.channel within c.in-Start.list c.in-Ok-start.field-0 asks in
    record {
      does = ask_counted send ring a b c.in-Start.channel asks.others_stay (Start c.in-Start.list) None (run_step (step_data c.args.step)) 0 told within is refl;
      answers = subst (λ s. AnswersStepAt send ring a b s None) (sym is) (told, asks.others_stay);
      came = subst (λ s. IsCame send ring a b s (Switched)) (sym is) asks;
      samplers_stay = asks.others_stay.samplers.those;
    }

pub returns-in-Err-Refused-start : goal.returns-in-Err-Refused-start
returns-in-Err-Refused-start g c =
    let send = g.T.Send.SendEnd in
    let ring = g.T.End.RingEnd in
    let a = engine_state g.O.Out g.T.TakeEnd c.args.engine.now in
    let b = engine_state g.O.Out g.T.TakeEnd c.start.new.self in
    let is = ap (λ (s : Step). run_step (step_data s)) c.in-Start.is in
    let within = subst (λ s. IsStepOf (length a.samplers) s) is c.requires.of_channel in
    let asks = c.in-Err-Refused-start.ensures.asks in
    let told = start_refused send ring a b c.in-Start.channel within c.in-Start.list c.in-Err-Refused-start.field-0 c.in-Err-Refused-start.fault c.in-Err-Refused-start.field-0-is asks in
    record {
      does = ask_counted send ring a b c.in-Start.channel asks.others_stay (Start c.in-Start.list) (Some (OfStart c.in-Err-Refused-start.fault)) (run_step (step_data c.args.step)) 1 told within is refl;
      answers = subst (λ s. AnswersStepAt send ring a b s (Some (OfStart c.in-Err-Refused-start.fault))) (sym is) (told, asks.others_stay);
      came = subst (λ s. IsCame send ring a b s (Refused (OfStart c.in-Err-Refused-start.fault))) (sym is) (subst (λ f. AsksStart send ring a b c.in-Start.channel c.in-Start.list (Err f)) c.in-Err-Refused-start.field-0-is asks);
      samplers_stay = asks.others_stay.samplers.those;
    }

-- and with a stop
pub returns-in-Ok-stop : goal.returns-in-Ok-stop
returns-in-Ok-stop g c =
    let send = g.T.Send.SendEnd in
    let ring = g.T.End.RingEnd in
    let a = engine_state g.O.Out g.T.TakeEnd c.args.engine.now in
    let b = engine_state g.O.Out g.T.TakeEnd c.stop.new.self in
    let is = ap (λ (s : Step). run_step (step_data s)) c.in-Stop.is in
    let within = subst (λ s. IsStepOf (length a.samplers) s) is c.requires.of_channel in
    let asks = c.in-Ok-stop.ensures.asks in
    let told = stop_done send ring a b c.in-Stop.channel within c.in-Stop.list c.in-Ok-stop.field-0 asks in
    record {
      does = ask_counted send ring a b c.in-Stop.channel asks.others_stay (Stop c.in-Stop.list) None (run_step (step_data c.args.step)) 0 told within is refl;
      answers = subst (λ s. AnswersStepAt send ring a b s None) (sym is) (told, asks.others_stay);
      came = subst (λ s. IsCame send ring a b s (Switched)) (sym is) asks;
      samplers_stay = asks.others_stay.samplers.those;
    }

pub returns-in-Err-Refused-stop : goal.returns-in-Err-Refused-stop
returns-in-Err-Refused-stop g c =
    let send = g.T.Send.SendEnd in
    let ring = g.T.End.RingEnd in
    let a = engine_state g.O.Out g.T.TakeEnd c.args.engine.now in
    let b = engine_state g.O.Out g.T.TakeEnd c.stop.new.self in
    let is = ap (λ (s : Step). run_step (step_data s)) c.in-Stop.is in
    let within = subst (λ s. IsStepOf (length a.samplers) s) is c.requires.of_channel in
    let asks = c.in-Err-Refused-stop.ensures.asks in
    let told = stop_refused send ring a b c.in-Stop.channel within c.in-Stop.list c.in-Err-Refused-stop.field-0 c.in-Err-Refused-stop.fault c.in-Err-Refused-stop.field-0-is asks in
    record {
      does = ask_counted send ring a b c.in-Stop.channel asks.others_stay (Stop c.in-Stop.list) (Some (OfStop c.in-Err-Refused-stop.fault)) (run_step (step_data c.args.step)) 1 told within is refl;
      answers = subst (λ s. AnswersStepAt send ring a b s (Some (OfStop c.in-Err-Refused-stop.fault))) (sym is) (told, asks.others_stay);
      came = subst (λ s. IsCame send ring a b s (Refused (OfStop c.in-Err-Refused-stop.fault))) (sym is) (subst (λ f. AsksStop send ring a b c.in-Stop.channel c.in-Stop.list (Err f)) c.in-Err-Refused-stop.field-0-is asks);
      samplers_stay = asks.others_stay.samplers.those;
    }

-- a pump
pub returns-in-Ok-pump-clause-does : goal.returns-in-Ok-pump-clause-does
returns-in-Ok-pump-clause-does g c = λ start openings steps refused few h.
    let send = g.T.Send.SendEnd in
    let ring = g.T.End.RingEnd in
    let a = engine_state g.O.Out g.T.TakeEnd c.args.engine.now in
    let b = engine_state g.O.Out g.T.TakeEnd c.pump.new.self in
    let more = pump_more send ring a b c.pump.ensures.pumps.samplers.those start openings steps refused few h c.pump.result c.pump.ensures.pumps in
    subst (λ s. HasDone send ring b start openings (steps ++ run_step (step_data s) ∷ []) (refused + 0)) (sym c.in-Pump.is) more

pub returns-in-Err-clause-does : goal.returns-in-Err-clause-does
returns-in-Err-clause-does g c = λ start openings steps refused few h.
    let send = g.T.Send.SendEnd in
    let ring = g.T.End.RingEnd in
    let a = engine_state g.O.Out g.T.TakeEnd c.args.engine.now in
    let b = engine_state g.O.Out g.T.TakeEnd c.pump.new.self in
    let more = pump_more send ring a b c.pump.ensures.pumps.samplers.those start openings steps refused few h c.pump.result c.pump.ensures.pumps in
    subst (λ s. HasDone send ring b start openings (steps ++ run_step (step_data s) ∷ []) (refused + 0)) (sym c.in-Pump.is) more

-- which asks nothing
pub returns-in-Ok-pump-clause-answers : goal.returns-in-Ok-pump-clause-answers
returns-in-Ok-pump-clause-answers g c =
    subst (λ s. AnswersStepAt g.T.Send.SendEnd g.T.End.RingEnd (engine_state g.O.Out g.T.TakeEnd c.args.engine.now) (engine_state g.O.Out g.T.TakeEnd c.pump.new.self) (run_step (step_data s)) None) (sym c.in-Pump.is) refl

pub returns-in-Err-clause-answers : goal.returns-in-Err-clause-answers
returns-in-Err-clause-answers g c =
    subst (λ s. AnswersStepAt g.T.Send.SendEnd g.T.End.RingEnd (engine_state g.O.Out g.T.TakeEnd c.args.engine.now) (engine_state g.O.Out g.T.TakeEnd c.pump.new.self) (run_step (step_data s)) None) (sym c.in-Pump.is) refl

-- the pump's answer
pub returns-in-Ok-pump-clause-came : goal.returns-in-Ok-pump-clause-came
returns-in-Ok-pump-clause-came g c =
    subst (λ s. IsCame g.T.Send.SendEnd g.T.End.RingEnd (engine_state g.O.Out g.T.TakeEnd c.args.engine.now) (engine_state g.O.Out g.T.TakeEnd c.pump.new.self) (run_step (step_data s)) (Pumped c.in-Ok-pump.pumped)) (sym c.in-Pump.is) c.in-Ok-pump.ensures.pumps

pub returns-in-Err-clause-came : goal.returns-in-Err-clause-came
returns-in-Err-clause-came g c =
    subst (λ s. IsCame g.T.Send.SendEnd g.T.End.RingEnd (engine_state g.O.Out g.T.TakeEnd c.args.engine.now) (engine_state g.O.Out g.T.TakeEnd c.pump.new.self) (run_step (step_data s)) (Stuck c.in-Err.fault)) (sym c.in-Pump.is) c.in-Err.ensures.pumps
