use Rattle.std.proofs.Common.{◌≡◌, ◌+◌, map, take, sym, ap, subst, ◌∙◌, arith}
use Rattle.std.specs.Prelude.{Some, slice_get}
use Rattle.std.specs.Option.{option_map}
use Rattle.run_file.specs.Lent.{step_data}
use Rattle.daq_run.specs.Samplings.{HasAnsweredMore}
use Rattle.daq_run.specs.Steps.{asked_at, asked_of, run_step}
use Rattle.daq_run.proofs.DoneLemmas.{asked-more}
use Rattle.daq_run.proofs.LoopLemmas.{none_within, steps-more, whole_steps}
use Rattle.daq_run.proofs.WorkLemmas.{asked_both, asked_nothing, stays_on, stays_still}
use Rattle.daq_run.proofs.worker.do_own.Goals as goal

-- nothing was done yet
pub loop-i-init : goal.loop-i-init
loop-i-init g c =
    let a = c.args.sampler.now in
    record {
      does = asked_nothing g.S.SendEnd g.S.End.RingEnd a;
      stays = stays_still g.S.SendEnd g.S.End.RingEnd a;
      few = omega arith;
      placed = omega arith;
    }

-- there is a step at each place
pub unreachable-requires : goal.unreachable-requires
unreachable-requires g c = none_within c.args.run.now.steps c.loop-i.i (sym c.step.ensures.value ∙ ap (option_map step_data) c.in_default.is) (omega (arith, c.loop-i-test.true, c.steps-i-end.ensures.value))

-- one step more
pub loop-i-preserved : goal.loop-i-preserved
loop-i-preserved g c =
    let send = g.S.SendEnd in
    let ring = g.S.End.RingEnd in
    let i = c.loop-i.invariant in
    let e = c.do_if_own-own.ensures in
    let a = c.args.sampler.now in
    let m = c.loop-i.sampler in
    let b = c.do_if_own-own.new.sampler in
    let steps = c.args.run.now.steps in
    let k = c.loop-i.i in
    let step = step_data c.in-Some.step in
    let at : slice_get steps k ≡ Some step = sym c.step.ensures.value ∙ ap (option_map step_data) c.in-Some.is in
    let all = ap (asked_of a.channel) (steps-more steps k step at) ∙ asked-more a.channel (map run_step (take k steps)) (run_step step) in
    let own = subst (λ n. HasAnsweredMore send ring m b (asked_at n (run_step step)) c.do_if_own-own.result.1) i.stays.channel e.does in
    record {
      does = subst (λ es. HasAnsweredMore send ring a b es (c.loop-i.refused + c.do_if_own-own.result.1)) (sym all)
          (asked_both send ring a m b (asked_of a.channel (map run_step (take k steps))) (asked_at a.channel (run_step step)) c.loop-i.refused c.do_if_own-own.result.1 i.does own);
      stays = stays_on send ring a m b i.stays e.set_up_stays;
      few = omega (arith, i.few, e.few);
      placed = omega (arith, i.placed, e.own);
    }

-- all of them
pub returns-clause-does : goal.returns-clause-does
returns-clause-does g c =
    let a = c.args.sampler.now in
    let steps = c.args.run.now.steps in
    let all = whole_steps steps c.loop-i.i (omega (arith, c.loop-i-test.false, c.steps-i-end.ensures.value)) in
    subst (λ s. HasAnsweredMore g.S.SendEnd g.S.End.RingEnd a c.loop-i.sampler (asked_of a.channel s) c.loop-i.refused) all c.loop-i.invariant.does
