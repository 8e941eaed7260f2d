-- The times of samples, since the first one that is shown.
use Rattle.std.specs.Prelude.{◌≡◌, ℕ, ◌+◌, ◌*◌, nat_le, if◌then◌else◌, ℤ, pos, ◌-ℤ◌}
use Rattle.std.specs.Prelude.{Option, None, Some, unwrap_or}
use Rattle.capture_tables.specs.Clocks.{IsUnwound, passed_between}
use Rattle.capture_tables.specs.declared.capture_clock.CaptureClock.{CaptureClock}
use Rattle.capture_tables.specs.declared.capture_clock.LastStamp.{LastStamp}
use Rattle.capture_tables.specs.declared.capture_clock.StampForm.{StampForm}
use Rattle.capture_tables.specs.declared.capture_clock.TheConstants.{START}
use Rattle.capture_tables.specs.declared.passed.Passed.{Passed}

-- what passed between two captures, if both times are known
abbrev pub passed_by : ℕ → Option ℤ → Option ℤ → Option Passed
passed_by tick (Some last) (Some now) =
    Some (record { tick = tick; picoseconds = passed_between last now })
passed_by tick _ _ = None

-- the capture's clock counts where a wrap takes more than 0.2 s
abbrev pub passed_in : Option ℤ → Option ℤ → StampForm → Option Passed
passed_in last now form =
    if nat_le (form.wrap * form.picoseconds) 200000000000 then None
    else passed_by form.picoseconds last now

-- the clock's last timestamp is now this one
abbrev pub with_stamp : CaptureClock → ℕ → CaptureClock
with_stamp clock at = record clock {
  last = Some (record { ticks = at; captured = clock.current });
}

-- the first timestamp: its time is 0
pub record IsFirst (clock : CaptureClock) (ticks : ℕ) (after : CaptureClock) (time : ℤ)
    : Type 0 where
  pub zero : time ≡ pos 0
  pub after_it : after ≡ with_stamp (record clock { first_stamp = START + ticks }) (START + ticks)

-- a later one: its wraps are unwound, and its time is that since the first one
pub record IsBehind (clock : CaptureClock) (form : StampForm) (last : LastStamp) (ticks : ℕ)
    (after : CaptureClock) (time : ℤ)
    : Type 0 where
  -- fixed by `is`
  pub at : ℕ
  pub is :
      IsUnwound last.ticks ticks form.wrap (passed_in last.captured clock.current form) at
  pub since_first : time ≡ pos at -ℤ pos clock.first_stamp
  pub after_it : after ≡ with_stamp clock at

-- a sample without a timestamp: its time is that since the first one that was captured
pub record IsCaptured (clock after : CaptureClock) (time : ℤ) : Type 0 where
  -- fixed by `known`
  pub now : ℤ
  pub known : clock.current ≡ Some now
  pub since_first : time ≡ now -ℤ unwrap_or clock.first_captured now
  pub after_it :
      after ≡ record clock { first_captured = Some (unwrap_or clock.first_captured now) }
