use Rattle.std.proofs.Common.{◌≡◌, ◌≤◌, ◌+◌, length, map, take, sym, ap, subst, ◌∙◌, arith}
use Rattle.std.specs.Prelude.{Some, slice_get}
use Rattle.std.specs.Option.{option_map}
use Rattle.run_file.specs.Lent.{step_data}
use Rattle.daq_engine.specs.Engines.{engine_state}
use Rattle.daq_engine.proofs.BesideLemmas.{as_many_stay, stay_on}
use Rattle.daq_run.specs.StepRuns.{HasDone}
use Rattle.daq_run.specs.Steps.{run_step}
use Rattle.daq_run.specs.Cames.{TellsCames}
use Rattle.daq_run.specs.Watched.{TellsSteps, refusals}
use Rattle.daq_run.proofs.LoopLemmas.{few_items, none_within, step_of_channel, steps-more}
use Rattle.daq_run.proofs.StepLemmas.{nothing_done, stay_still}
use Rattle.daq_run.proofs.WatchLemmas.{tells_came, tells_more, tells_no_came, tells_none}
use Rattle.daq_run.proofs.doing.do_watched.Goals as goal

-- nothing was done yet
pub loop-i-init : goal.loop-i-init
loop-i-init g c =
    let a = engine_state g.O.Out g.T.TakeEnd c.args.engine.now in
    record {
      few = omega arith;
      those = stay_still g.T.Send.SendEnd g.T.End.RingEnd a.samplers;
      tells = tells_none g.W.Watch.notes c.args.watch.now;
      cames = tells_no_came g.T.Send.SendEnd g.T.End.RingEnd g.W.Watch.notes a c.args.watch.now;
      does = λ start openings stands. nothing_done g.T.Send.SendEnd g.T.End.RingEnd a start openings stands;
    }

-- there is a step at each place
pub unreachable-requires : goal.unreachable-requires
unreachable-requires g c = none_within c.args.run.now.steps c.loop-i.i (sym c.step.ensures.value ∙ ap (option_map step_data) c.in_default.is) (omega (arith, c.loop-i-test.true, c.steps-i-end.ensures.value))

-- it is of a channel that the engine has
pub do_step-came-requires : goal.do_step-came-requires
do_step-came-requires g c =
    let at = sym c.step.ensures.value ∙ ap (option_map step_data) c.in-Some.is in
    let many = as_many_stay g.T.Send.SendEnd _ _ c.loop-i.invariant.those ∙ c.requires.channels in
    record { of_channel = step_of_channel c.args.run.now c.step.ensures.limits _ c.loop-i.i (step_data c.in-Some.step) many at }

-- one step more, and it was told
pub loop-i-preserved : goal.loop-i-preserved
loop-i-preserved g c =
    let send = g.T.Send.SendEnd in
    let ring = g.T.End.RingEnd in
    let i = c.loop-i.invariant in
    let e = c.do_step-came.ensures in
    let run = c.args.run.now in
    let k = c.loop-i.i in
    let step = step_data c.in-Some.step in
    let came = c.do_step-came.result in
    let at : slice_get run.steps k ≡ Some step = sym c.step.ensures.value ∙ ap (option_map step_data) c.in-Some.is in
    let many = as_many_stay send _ _ i.those ∙ c.requires.channels in
    let within : k ≤ length run.steps = omega (arith, c.loop-i-test.true, c.steps-i-end.ensures.value) in
    let few = few_items run c.step.ensures.limits _ k many within in
    let b = engine_state g.O.Out g.T.TakeEnd c.do_step-came.new.engine in
    let a = engine_state g.O.Out g.T.TakeEnd c.args.engine.now in
    let m = engine_state g.O.Out g.T.TakeEnd c.loop-i.engine in
    let counted = sym c.count-refused.ensures.value in
    record {
      few = omega (arith, i.few, c.count-refused.ensures.few);
      tells = subst (λ n. TellsSteps g.W.Watch.notes c.args.watch.now c.note.new.self (k + 1) (c.loop-i.refused + n)) counted
          (tells_more g.W.Watch.notes c.args.watch.now c.loop-i.watch c.note.new.self k c.loop-i.refused came i.tells c.note.ensures);
      cames = subst (λ n. TellsCames send ring g.W.Watch.notes a b c.args.watch.now c.note.new.self (map run_step (take (k + 1) run.steps)) (c.loop-i.refused + n)) counted
          (subst (λ steps. TellsCames send ring g.W.Watch.notes a b c.args.watch.now c.note.new.self steps (c.loop-i.refused + refusals came)) (sym (steps-more run.steps k step at))
          (tells_came send ring g.W.Watch.notes a m b c.args.watch.now c.loop-i.watch c.note.new.self _ c.loop-i.refused (run_step step) came i.cames e.came c.note.ensures));
      those = stay_on send _ _ _ i.those e.samplers_stay;
      does = λ start openings stands.
          subst (λ n. HasDone send ring b start openings (map run_step (take (k + 1) run.steps)) (c.loop-i.refused + n)) counted
          (subst (λ steps. HasDone send ring b start openings steps (c.loop-i.refused + refusals came)) (sym (steps-more run.steps k step at))
          (e.does start openings (map run_step (take k run.steps)) c.loop-i.refused few (i.does start openings stands)));
    }
