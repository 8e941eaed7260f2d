-- How the counter of a slave's frame goes on from the last one that counted (ASAM MCD-1 XCP,
-- transport layer for Ethernet, CTR): it rises by one with each frame, and wraps after 65535.
use Rattle.std.specs.Prelude.{ℕ, ◌+◌, ◌-◌, ◌%◌, ◌==◌, ◌||◌, if◌then◌else◌, nat_le, Option, Some}
use Rattle.std.specs.Prelude.{None}
use Rattle.captured_samples.specs.declared.counter_steps.CounterStep.{CounterStep}
use Rattle.captured_samples.specs.declared.counter_steps.CounterStep.TheVariants.{Behind, First}
use Rattle.captured_samples.specs.declared.counter_steps.CounterStep.TheVariants.{Jump}
use Rattle.captured_samples.specs.declared.counter_steps.CounterStep.TheVariants.{Next}

-- how far one is ahead of another, modulo 65536
abbrev pub ahead : ℕ → ℕ → ℕ
ahead last counter = (counter + 65536 - last) % 65536

abbrev pub step_by : ℕ → CounterStep
step_by far =
    if far == 1 then Next
    else if far == 0 || nat_le 32768 far then Behind
    else Jump

abbrev pub step_behind : Option ℕ → ℕ → CounterStep
step_behind None counter = First
step_behind (Some last) counter = step_by (ahead last counter)
