use Rattle.std.proofs.Common.{◌≡◌, ◌<◌, ◌∷◌, [], ◌++◌, ap, length, refl, sym, ◌∙◌, arith, rules, length-append, vec_capacity, vec_len}
use Rattle.std.specs.declared.thread.PromisedHandle.{PromisedHandle}
use Rattle.std.proofs.lemmas.Iterator.Adapters.{YieldsList-from_vec}
use Rattle.std.proofs.lemmas.Iterator.Consumers.{YieldsList-end, YieldsList-turn}
use Rattle.std.proofs.lemmas.Bool.{false≢true}
use Rattle.std.proofs.lemmas.List.{map-id}
use Rattle.xcp_base.specs.declared.limits.TheConstants.{RUN_CHANNELS}
use Rattle.daq_run.specs.declared.worker.WillWork.{WillWork}
use Rattle.daq_run.proofs.WorkLemmas.{all-none, shown-none}
use Rattle.daq_run.proofs.threaded.start_all.Goals as goal

-- there are no more samplers than flags, and there is room for each
pub start_next-requires : goal.start_next-requires
start_next-requires g c =
    let samplers = c.args.samplers in
    let given = c.into_iter-sampler-iterator.ensures.into_iter_gives in
    let turn =
    YieldsList-turn (YieldsList-from_vec {s = c.into_iter-sampler-iterator.result} samplers.items given.0 (given.1 ∙ samplers.ok.0))
    c.loop-sampler.yielded c.loop-sampler.sampler-iterator c.loop-sampler.yielded_by c.next.result c.next.new.self c.in-Some.sampler c.in-Some.is c.next.ensures.steps in
    let i = c.loop-sampler.invariant in
    let workers = c.loop-sampler.workers in
    let few : vec_len workers < RUN_CHANNELS = omega (arith, turn.0, c.requires.few, i.as_many, samplers.ok.0) in
    let room : vec_len workers < vec_capacity workers = omega (arith, turn.0, c.requires.enough, i.as_many, i.room, samplers.ok.0) in
    search rules

-- at first there is none
pub loop-sampler-init : goal.loop-sampler-init
loop-sampler-init g c =
    let workers = c.args.workers.now in
    let none : length workers.items ≡ 0 = omega (arith, c.requires.empty, workers.ok.0) in
    record {
      of_samplers = shown-none (λ (h : PromisedHandle _ (WillWork _ _)). h.promise.sampler.value) workers.items none;
      of_run = all-none (λ (h : PromisedHandle _ (WillWork _ _)). h.promise.run.now ≡ c.args.run.now) workers.items none;
      as_many = c.requires.empty;
      room = refl;
    }

-- a thread more
pub loop-sampler-preserved : goal.loop-sampler-preserved
loop-sampler-preserved g c =
    let i = c.loop-sampler.invariant in
    let one = c.start_next.ensures in
    let started = c.if-not-start_next.false in
    let ys = c.loop-sampler.yielded in
    let h = c.in-Some.sampler in
    record {
      of_samplers = one.of_sampler started ∙ ap (λ ss. ss ++ h ∷ []) i.of_samplers;
      of_run = one.of_run i.of_run;
      as_many = omega (arith, i.as_many, length-append ys (h ∷ []), one.more started);
      room = one.room ∙ i.room;
    }

-- there was a thread for each
pub returns-clause-of_samplers : goal.returns-clause-of_samplers
returns-clause-of_samplers g c = λ _.
    let samplers = c.args.samplers in
    let given = c.into_iter-sampler-iterator.ensures.into_iter_gives in
    let seen =
    YieldsList-end (YieldsList-from_vec {s = c.into_iter-sampler-iterator.result} samplers.items given.0 (given.1 ∙ samplers.ok.0))
    c.loop-sampler.yielded c.loop-sampler.sampler-iterator c.loop-sampler.yielded_by c.next.result c.next.new.self c.in-None.is c.next.ensures.steps in
    c.loop-sampler.invariant.of_samplers ∙ (sym (map-id c.loop-sampler.yielded) ∙ seen.0)

pub returns-clause-of_run : goal.returns-clause-of_run
returns-clause-of_run g c = c.loop-sampler.invariant.of_run

pub returns-clause-few : goal.returns-clause-few
returns-clause-few g c =
    let samplers = c.args.samplers in
    let given = c.into_iter-sampler-iterator.ensures.into_iter_gives in
    let seen =
    YieldsList-end (YieldsList-from_vec {s = c.into_iter-sampler-iterator.result} samplers.items given.0 (given.1 ∙ samplers.ok.0))
    c.loop-sampler.yielded c.loop-sampler.sampler-iterator c.loop-sampler.yielded_by c.next.result c.next.new.self c.in-None.is c.next.ensures.steps in
    let many = ap length (sym (map-id c.loop-sampler.yielded) ∙ seen.0) in
    omega (arith, many, c.loop-sampler.invariant.as_many, samplers.ok.0)

-- or none was had for the one that came next
pub returns-then-not-start_next-clause-of_samplers : goal.returns-then-not-start_next-clause-of_samplers
returns-then-not-start_next-clause-of_samplers g c = λ all. absurd (false≢true all)

pub returns-then-not-start_next-clause-of_run : goal.returns-then-not-start_next-clause-of_run
returns-then-not-start_next-clause-of_run g c = c.start_next.ensures.of_run c.loop-sampler.invariant.of_run

pub returns-then-not-start_next-clause-few : goal.returns-then-not-start_next-clause-few
returns-then-not-start_next-clause-few g c =
    let samplers = c.args.samplers in
    let given = c.into_iter-sampler-iterator.ensures.into_iter_gives in
    let turn =
    YieldsList-turn (YieldsList-from_vec {s = c.into_iter-sampler-iterator.result} samplers.items given.0 (given.1 ∙ samplers.ok.0))
    c.loop-sampler.yielded c.loop-sampler.sampler-iterator c.loop-sampler.yielded_by c.next.result c.next.new.self c.in-Some.sampler c.in-Some.is c.next.ensures.steps in
    omega (arith, turn.0, c.loop-sampler.invariant.as_many, c.start_next.ensures.len, samplers.ok.0)
