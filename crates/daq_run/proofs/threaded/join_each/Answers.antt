use Rattle.std.proofs.Common.{◌≡◌, ◌∷◌, [], ◌+◌, ◌++◌, All, length, map, refl, sym, subst, ◌∙◌, arith, length-append}
use Rattle.std.specs.declared.thread.PromisedHandle.{PromisedHandle}
use Rattle.std.proofs.lemmas.Iterator.Adapters.{YieldsList-from_vec}
use Rattle.std.proofs.lemmas.Iterator.Consumers.{YieldsList-end, YieldsList-turn}
use Rattle.std.proofs.lemmas.List.{map-append, map-id}
use Rattle.run_file.specs.RunFile.{RunData}
use Rattle.daq_run.specs.Steps.{run_step}
use Rattle.daq_run.specs.Inner.Workers.{HaveWorked, IsLeftAfterSteps}
use Rattle.daq_run.specs.declared.worker.WillWork.{WillWork}
use Rattle.daq_run.proofs.WorkLemmas.{all-before, worked-more, worked-none}
use Rattle.daq_run.proofs.threaded.join_each.Goals as goal

-- at first there is none
pub loop-worker-init : goal.loop-worker-init
loop-worker-init g c =
    let ends = c.args.ends.now in
    let none : length ends.items ≡ 0 = omega (arith, c.requires.empty, ends.ok.0) in
    record {
      worked = λ run all. worked-none g.S.SendEnd g.S.End.RingEnd (map run_step run.steps) ends.items none;
      small = omega arith;
      as_many = c.requires.empty;
      room = refl;
    }

-- there is room for each
pub join_next-requires : goal.join_next-requires
join_next-requires g c =
    let workers = c.args.workers in
    let given = c.into_iter-worker-iterator.ensures.into_iter_gives in
    let turn =
    YieldsList-turn (YieldsList-from_vec {s = c.into_iter-worker-iterator.result} workers.items given.0 (given.1 ∙ workers.ok.0))
    c.loop-worker.yielded c.loop-worker.worker-iterator c.loop-worker.yielded_by c.next.result c.next.new.self c.in-Some.worker c.in-Some.is c.next.ensures.steps in
    record { room = omega (arith, turn.0, c.requires.enough, c.loop-worker.invariant.as_many, c.loop-worker.invariant.room, workers.ok.0) }

-- one thread more kept its promise
pub loop-worker-preserved : goal.loop-worker-preserved
loop-worker-preserved g c =
    let send = g.S.SendEnd in
    let ring = g.S.End.RingEnd in
    let i = c.loop-worker.invariant in
    let h = c.in-Some.worker in
    let ys = c.loop-worker.yielded in
    let xs = c.loop-worker.ends.items in
    let one = c.in_ok-more.ensures in
    let e = one.left.left in
    let n = c.loop-worker.refused in
    let m = c.in_ok-more.more in
    let value = λ (h : PromisedHandle _ (WillWork _ _)). h.promise.sampler.value in
    record {
      worked = λ run all.
          let both = all-before (λ (k : PromisedHandle _ (WillWork _ _)). k.promise.run.now ≡ run) ys h all in
          let own = subst (λ (r : RunData). IsLeftAfterSteps send ring (value h) (map run_step r.steps) e m) both.1 one.left.is_left in
          let more = worked-more send ring (map value ys) (value h) (map run_step run.steps) xs e n m (i.worked run both.0) own in
          subst (λ es. HaveWorked send ring (map value (ys ++ h ∷ [])) (map run_step run.steps) es (n + m)) (sym one.left.appended)
          (subst (λ ss. HaveWorked send ring ss (map run_step run.steps) (xs ++ e ∷ []) (n + m)) (sym (map-append value ys (h ∷ []))) more);
      small = omega (arith, i.small, one.few, length-append ys (h ∷ []));
      as_many = omega (arith, i.as_many, length-append ys (h ∷ []), one.len);
      room = one.room ∙ i.room;
    }

-- all of them did
pub returns-clause-worked : goal.returns-clause-worked
returns-clause-worked g c = λ run all.
    let workers = c.args.workers in
    let given = c.into_iter-worker-iterator.ensures.into_iter_gives in
    let seen =
    YieldsList-end (YieldsList-from_vec {s = c.into_iter-worker-iterator.result} workers.items given.0 (given.1 ∙ workers.ok.0))
    c.loop-worker.yielded c.loop-worker.worker-iterator c.loop-worker.yielded_by c.next.result c.next.new.self c.in-None.is c.next.ensures.steps in
    let same : c.loop-worker.yielded ≡ workers.items = sym (map-id c.loop-worker.yielded) ∙ seen.0 in
    let value = λ (h : PromisedHandle _ (WillWork _ _)). h.promise.sampler.value in
    subst (λ hs. HaveWorked g.S.SendEnd g.S.End.RingEnd (map value hs) (map run_step run.steps) c.loop-worker.ends.items c.loop-worker.refused) same
    (c.loop-worker.invariant.worked run (subst (All (λ (k : PromisedHandle _ (WillWork _ _)). k.promise.run.now ≡ run)) (sym same) all))
