use Rattle.std.proofs.Common.{map, refl, arith}
use Rattle.std.specs.declared.thread.PromisedHandle.{PromisedHandle}
use Rattle.std.proofs.lemmas.Bool.{false≢true}
use Rattle.daq_run.specs.declared.worker.WillWork.{WillWork}
use Rattle.daq_run.proofs.WorkLemmas.{all-more, shown-more}
use Rattle.daq_run.proofs.threaded.start_next.Goals as goal

-- there is a flag for each thread
pub listed : goal.listed
listed g c = omega (arith, c.requires.few, c.len.ensures, c.type_inv.ended)

-- a thread more
pub returns-clause-of_sampler : goal.returns-clause-of_sampler
returns-clause-of_sampler g c = λ _.
    let value = λ (h : PromisedHandle _ (WillWork _ _)). h.promise.sampler.value in
    let xs = c.args.workers.now.items in
    let one = c.in-Some in
    shown-more value xs c.push_reserved.new.self.items (map value xs) one.worker c.args.sampler c.push_reserved.ensures.items refl one.ensures.of_sampler

pub returns-clause-of_run : goal.returns-clause-of_run
returns-clause-of_run g c = λ all.
    let one = c.in-Some in
    all-more (λ (h : PromisedHandle _ (WillWork _ _)). h.promise.run.now) c.args.run.now c.args.workers.now.items c.push_reserved.new.self.items one.worker c.push_reserved.ensures.items all one.ensures.of_run

-- or none
pub returns-in_default-clause-of_sampler : goal.returns-in_default-clause-of_sampler
returns-in_default-clause-of_sampler g c = λ all. absurd (false≢true all)

pub returns-in_default-clause-of_run : goal.returns-in_default-clause-of_run
returns-in_default-clause-of_run g c = λ all. all
