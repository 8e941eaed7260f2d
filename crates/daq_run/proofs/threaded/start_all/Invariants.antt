use Rattle.std.proofs.Common.{◌≡◌, All, length, map, vec_capacity, vec_len}
use Rattle.daq_run.proofs.threaded.start_all.Given as goal

-- those so far have a thread
abbrev pub invariant-loop-sampler : goal.invariant-loop-sampler
invariant-loop-sampler g l = record {
  of_samplers : map (λ h. h.promise.sampler.value) l.workers.items ≡ l.yielded;
  of_run : All (λ h. h.promise.run.now ≡ l.run) l.workers.items;
  as_many : vec_len l.workers ≡ length l.yielded;
  room : vec_capacity l.workers ≡ vec_capacity l.fn.workers;
}
