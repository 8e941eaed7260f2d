use Rattle.std.proofs.Common.{◌≡◌, ◌≤◌, ◌*◌, All, length, map, vec_capacity, vec_len}
use Rattle.run_file.specs.RunFile.{RunData}
use Rattle.run_file.specs.declared.limits.TheConstants.{MAX_STEPS}
use Rattle.daq_run.specs.Steps.{run_step}
use Rattle.daq_run.specs.Inner.Workers.{HaveWorked}
use Rattle.daq_run.proofs.threaded.join_each.Given as goal

-- those so far kept their promises
abbrev pub invariant-loop-worker : goal.invariant-loop-worker
invariant-loop-worker g l = record {
  worked : (run : RunData) → All (λ h. h.promise.run.now ≡ run) l.yielded
      → HaveWorked g.S.SendEnd g.S.End.RingEnd (map (λ h. h.promise.sampler.value) l.yielded) (map run_step run.steps) l.ends.items l.refused;
  small : l.refused ≤ MAX_STEPS * length l.yielded;
  as_many : vec_len l.ends ≡ length l.yielded;
  room : vec_capacity l.ends ≡ vec_capacity l.fn.ends;
}
